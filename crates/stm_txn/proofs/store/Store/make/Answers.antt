use Rattle.std.proofs.Common.{◌≡◌, ◌∙◌, sym, ap, subst, false, List}
use Rattle.std.specs.List.{list_any}
use Rattle.stm_history.specs.declared.change.Change.{Change}
use Rattle.stm_history.specs.History.{HasDistinctKeys}
use Rattle.stm_keys.specs.Keys.{DeletePresent}
use Rattle.stm_leases.specs.Live.{is_live_in}
use Rattle.stm_outcome.specs.Commits.{is_on_dead_lease, effective}
use Rattle.stm_txn.specs.Leasing.{attached_of, AttachedToLive}
use Rattle.stm_txn.specs.Store.{StoreView}
use Rattle.stm_txn.proofs.Writing.{effective_distinct, effective_live, effective_present}
use Rattle.stm_txn.proofs.store.Store.make.Goals as goal

pub add_changes-requires-clause-distinct : goal.add_changes-requires-clause-distinct
add_changes-requires-clause-distinct c =
    subst (λ (cs : List Change). HasDistinctKeys cs) (sym (c.only_effective-changes.ensures
    ∙ ap (λ (s : StoreView). effective s.standing.history c.args.writes.items) c.self.view_is))
    (effective_distinct c.args.self.now.standing.history c.args.writes.items c.requires)

pub add_changes-requires-clause-live : goal.add_changes-requires-clause-live
add_changes-requires-clause-live c =
    let alive : list_any (is_on_dead_lease (is_live_in c.args.self.now.standing.live)) c.args.writes.items ≡ false =
    ap (λ (s : StoreView). list_any (is_on_dead_lease (is_live_in s.standing.live)) c.args.writes.items) (sym c.self.view_is)
    ∙ sym (c.any_names_dead_lease.ensures ∙ ap (list_any (is_on_dead_lease (is_live_in c.self.inside.leases.live))) c.as_slice.ensures.value)
    ∙ c.if-any_names_dead_lease.false in
    subst (λ (cs : List Change). AttachedToLive c.args.self.now.standing.live (attached_of cs)) (sym (c.only_effective-changes.ensures
    ∙ ap (λ (s : StoreView). effective s.standing.history c.args.writes.items) c.self.view_is))
    (effective_live c.args.self.now.standing c.args.writes.items c.requires alive)

pub add_changes-requires-clause-present : goal.add_changes-requires-clause-present
add_changes-requires-clause-present c =
    subst (λ (cs : List Change). DeletePresent c.args.self.now.standing.history cs) (sym (c.only_effective-changes.ensures
    ∙ ap (λ (s : StoreView). effective s.standing.history c.args.writes.items) c.self.view_is))
    (effective_present c.args.self.now.standing.history c.args.writes.items c.requires)
