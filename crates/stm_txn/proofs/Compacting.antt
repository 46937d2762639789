-- A store whose floor rises.
use Rattle.std.proofs.Common.{◌≡◌, ℕ, ◌-◌, ◌≤◌, ◌<◌, Some, None, Result, Ok, Err, ap, arith, inl, inr}
use Rattle.std.specs.Prelude.{◌↔◌}
use Rattle.std.proofs.lemmas.Bool.{cases_lt, le-leb, lt-leb, lt-ltb, le-ltb, Decides.nat_tests}
use Rattle.stm_history.specs.Cut.{cut}
use Rattle.stm_history.specs.History.{now}
use Rattle.stm_history.proofs.CutLaws.{cut_keeps_now, cut_keeps_keys_now}
use Rattle.stm_keys.specs.Keys.{Contents, with_floor as keys_with_floor, compacted_at}
use Rattle.stm_leases.specs.Leases.{Leases}
use Rattle.stm_watch.specs.Places.{WatchersView, watchings}
use Rattle.stm_watch.specs.Calls.{StandFor, compacted as compacted_watchers}
use Rattle.stm_outcome.specs.declared.refusal.Refusal.{Refusal}
use Rattle.stm_outcome.specs.declared.refusal.Refusal.TheVariants.{FutureRevision, Compacted}
use Rattle.stm_txn.specs.Standing.{Standing, Step, compaction_refusal, with_floor, kept, floor_step, raised, compacted}
use Rattle.stm_txn.proofs.Bounding.{cut_fits}
use Rattle.stm_txn.proofs.Copied.{AreParts, store_of}

-- ---- why it does not rise

not_refused : (s : Standing) (revision : ℕ) → s.floor < revision → revision ≤ now s.history → compaction_refusal s revision ≡ None
not_refused s revision above reached = grind (arith, nat_tests, lt-leb, le-ltb)

pub refused_compacted : (s : Standing) (revision : ℕ) → revision ≤ s.floor → compaction_refusal s revision ≡ Some Compacted
refused_compacted s revision below = grind (arith, nat_tests, le-leb)

pub refused_future : (s : Standing) (revision : ℕ) → s.floor ≤ now s.history → now s.history < revision → compaction_refusal s revision ≡ Some FutureRevision
refused_future s revision floor above = grind (arith, nat_tests, lt-leb, lt-ltb)

pub raised_refused : (s : Standing) (revision : ℕ) (cause : Refusal) → compaction_refusal s revision ≡ Some cause → raised s revision ≡ Err cause
raised_refused s revision cause is = ap (λ o. floor_step o (with_floor s revision)) is

pub compacted_refused : (s : Standing) (revision : ℕ) (cause : Refusal) → compaction_refusal s revision ≡ Some cause → compacted s revision ≡ Err cause
compacted_refused s revision cause is = ap (λ o. floor_step o (kept (with_floor s revision))) is

-- what is refused where something holds does not hold where the answer is another
pub not_so : {T E P : Type 0} (x : T) (e : E) → ((let done : Result T E = Ok x in done) ≡ Err e) ↔ P → P → ⊥
not_so x e reports holds = let never = reports.1 holds in absurd (cc)

pub above_floor : {T E : Type 0} (x : T) (e : E) (floor revision : ℕ) → ((let done : Result T E = Ok x in done) ≡ Err e) ↔ (revision ≤ floor) → floor < revision
above_floor x e floor revision reports = elim (cases_lt floor revision) [ inl less ↦ less | inr more ↦ absurd (not_so x e reports more) ]

pub has_come : {T E : Type 0} (x : T) (e : E) (counter revision : ℕ) → ((let done : Result T E = Ok x in done) ≡ Err e) ↔ (counter < revision)
    → revision ≤ counter
has_come x e counter revision reports = elim (cases_lt counter revision) [ inl less ↦ absurd (not_so x e reports less) | inr more ↦ more ]

-- ---- it rises

abbrev pub done : Standing → Result (Step (Unit {0})) Refusal
done next = Ok (record { answer = tt; next = next })

module _ (limit : ℕ) (keys next : Contents) (leases : Leases) (moment : ℕ) (watchers after : WatchersView) (revision : ℕ) (above : keys.floor < revision)
    (reached : revision ≤ now keys.history) (lost : watchings after ≡ compacted_watchers keys.history revision (watchings watchers)) where
  abbrev old : Standing
  old = (store_of limit keys leases moment watchers).standing

  pub raised_reported : next ≡ keys_with_floor revision keys → raised old revision ≡ done (store_of limit next leases moment after).standing
  raised_reported is = grind (arith, nat_tests, not_refused, store_of)

  pub compacted_reported : next ≡ compacted_at revision keys → compacted old revision ≡ done (store_of limit next leases moment after).standing
  compacted_reported is = grind (arith, nat_tests, not_refused, store_of)

module _ (keys next : Contents) (leases : Leases) (watchers after : WatchersView) (revision : ℕ) (reached : revision ≤ now keys.history)
    (at : after.floor ≡ revision) (parts : AreParts keys leases watchers) where
  pub raised_parts : next ≡ keys_with_floor revision keys → StandFor keys.history after → AreParts next leases after
  raised_parts is stand = grind (arith, nat_tests, AreParts)

  pub compacted_parts : next ≡ compacted_at revision keys → StandFor (cut (revision - 1) keys.history) after → AreParts next leases after
  compacted_parts is stand = grind (arith, nat_tests, AreParts, cut_keeps_keys_now, cut_fits, cut_keeps_now)
