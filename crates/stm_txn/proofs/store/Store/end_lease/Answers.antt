use Rattle.std.proofs.Common.{◌≡◌, ◌∙◌, sym, ap, subst, List}
use Rattle.stm_history.specs.declared.change.Change.{Change}
use Rattle.stm_history.specs.History.{History, HasDistinctKeys}
use Rattle.stm_keys.specs.Keys.{DeletePresent}
use Rattle.stm_txn.specs.Leasing.{lease_now, attached_of, AttachedToLive}
use Rattle.stm_txn.specs.LeaseKeys.{deletions_of}
use Rattle.stm_outcome.specs.Outcome.{with_changes}
use Rattle.stm_txn.specs.Store.{StoreView}
use Rattle.stm_txn.proofs.Ending.{deletions_are_distinct, deletions_are_present, attached_of-deletions, gone}
use Rattle.stm_txn.proofs.store.Store.end_lease.Goals as goal

pub add_changes-requires-clause-distinct : goal.add_changes-requires-clause-distinct
add_changes-requires-clause-distinct c =
    subst (λ (cs : List Change). HasDistinctKeys cs) (sym c.in_ok-changes.ensures.ok)
    (deletions_are_distinct c.args.self.now.standing.history c.args.id)

pub add_changes-requires-clause-live : goal.add_changes-requires-clause-live
add_changes-requires-clause-live c =
    subst (λ (cs : List Change). AttachedToLive c.args.self.now.standing.live (attached_of cs)) (sym c.in_ok-changes.ensures.ok)
    (subst (AttachedToLive c.args.self.now.standing.live) (sym (attached_of-deletions c.args.self.now.standing.history c.args.id)) tt)

pub remove-requires-clause-no_keys : goal.remove-requires-clause-no_keys
remove-requires-clause-no_keys c = λ has.
    let h : History = c.args.self.now.standing.history in
    let history : c.self.inside.keys.history ≡ with_changes h (deletions_of h c.args.id) =
    ap (λ (s : StoreView). s.standing.history) c.self.view_is ∙ c.in_ok-add_changes.ensures.ok
    ∙ ap (with_changes h) c.in_ok-changes.ensures.ok in
    gone h c.args.id has.0 (sym (ap (λ (x : History). lease_now x has.0) history) ∙ sym (c.self.invariant.0 has.0) ∙ has.1)

pub add_changes-requires-clause-present : goal.add_changes-requires-clause-present
add_changes-requires-clause-present c =
    subst (λ (cs : List Change). DeletePresent c.args.self.now.standing.history cs) (sym c.in_ok-changes.ensures.ok)
    (deletions_are_present c.args.self.now.standing.history c.args.id)
