use Rattle.std.proofs.Common.{◌∙◌, sym, ap, subst, List, []}
use Rattle.std.specs.Prelude.{IsTrue}
use Rattle.stm_history.specs.declared.change.Change.{Change}
use Rattle.stm_history.specs.History.{now, HasDistinctKeys}
use Rattle.stm_outcome.specs.declared.txn.Op.{Op}
use Rattle.stm_outcome.specs.Branches.{are_readable}
use Rattle.stm_outcome.specs.LookUps.{changes_copied}
use Rattle.stm_keys.specs.Keys.{DeletePresent}
use Rattle.stm_txn.specs.Leasing.{attached_of, AttachedToLive}
use Rattle.stm_txn.specs.Standing.{terms_of}
use Rattle.stm_txn.specs.Store.{StoreView}
use Rattle.stm_outcome.proofs.Branching.{changes_are_distinct}
use Rattle.stm_txn.proofs.Running.{all_readable, attaches_live, deletes_present}
use Rattle.stm_txn.proofs.store.Store.finish_each.Goals as goal

pub run_branch-requires : goal.run_branch-requires
run_branch-requires c =
    let ops : List Op = c.args.ops.now in
    subst (λ (s : StoreView). IsTrue (are_readable (now s.standing.history) ops)) (sym c.self.view_is)
    (all_readable (terms_of c.args.self.now.standing) ops c.requires.allowed)

pub add_changes-requires-clause-distinct : goal.add_changes-requires-clause-distinct
add_changes-requires-clause-distinct c =
    subst (λ (cs : List Change). HasDistinctKeys cs) (sym (c.in_ok-branch.ensures.changes
    ∙ ap (λ (s : StoreView). changes_copied s.standing.history [] c.args.ops.now) c.self.view_is))
    (changes_are_distinct c.args.self.now.standing.history c.args.ops.now c.requires.apart)

pub add_changes-requires-clause-live : goal.add_changes-requires-clause-live
add_changes-requires-clause-live c =
    subst (λ (cs : List Change). AttachedToLive c.args.self.now.standing.live (attached_of cs)) (sym (c.in_ok-branch.ensures.changes
    ∙ ap (λ (s : StoreView). changes_copied s.standing.history [] c.args.ops.now) c.self.view_is))
    (attaches_live c.args.self.now.standing c.args.ops.now c.requires.allowed)

pub add_changes-requires-clause-present : goal.add_changes-requires-clause-present
add_changes-requires-clause-present c =
    subst (λ (cs : List Change). DeletePresent c.args.self.now.standing.history cs) (sym (c.in_ok-branch.ensures.changes
    ∙ ap (λ (s : StoreView). changes_copied s.standing.history [] c.args.ops.now) c.self.view_is))
    (deletes_present c.args.self.now.standing.history c.args.ops.now c.requires.apart)
