use Rattle.std.proofs.Common.{◌∙◌, ◌≤◌, sym, ap, subst, ℕ, arith}
use Rattle.std.specs.Cmp.Lexicographic.{slice_cmp}
use Rattle.std.specs.Ordering.{nat_cmp}
use Rattle.std.specs.FinMap as finmap
use Rattle.stm_history.specs.History.{History, now, key_now}
use Rattle.stm_leases.specs.Live.{Live}
use Rattle.stm_watch.specs.Places.{WatchersView}
use Rattle.stm_watch.specs.Calls.{StandFor}
use Rattle.stm_txn.specs.Leasing.{attaching}
use Rattle.stm_outcome.specs.Numbers.{LeasesFit}
use Rattle.stm_txn.proofs.store.Store.opened.Goals as goal

pub invariant_of-result : goal.invariant_of-result
invariant_of-result c = (
  λ key.
      ap (λ (m : finmap.FinMap (slice_cmp nat_cmp) ℕ). finmap.get m key) c.new.ensures.attached
      ∙ finmap.get-empty (slice_cmp nat_cmp) key
      ∙ ap (λ h. attaching (key_now h key)) (sym c.with_revision.ensures.history),
  subst (λ (h : History). LeasesFit h) (sym c.with_revision.ensures.history) ((λ key. tt), tt),
  subst (λ (v : WatchersView). StandFor c.with_revision.result.history v) (sym c.requires.unwatched) tt,
  ap (λ (v : WatchersView). v.floor) c.requires.unwatched
      ∙ sym c.with_revision.ensures.floor,
  subst (λ n. n ≤ now c.with_revision.result.history) (sym c.with_revision.ensures.floor) (omega arith),
)

pub returns-clause-log : goal.returns-clause-log
returns-clause-log c = λ id. ap (λ (m : Live). finmap.get m id) c.new.ensures.live ∙ finmap.get-empty nat_cmp id
