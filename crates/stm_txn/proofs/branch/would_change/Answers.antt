use Rattle.std.proofs.Common.{◌∙◌, ap}
use Rattle.stm_history.specs.History.{History, key_now}
use Rattle.stm_outcome.specs.Branches.{changes_of_branch, has_changes}
use Rattle.stm_outcome.specs.Compares.{first_failed}
use Rattle.stm_outcome.specs.Outcome.{chosen}
use Rattle.stm_txn.proofs.Counting.{changes_alike}
use Rattle.stm_txn.proofs.branch.would_change.Goals as goal

pub returns : goal.returns
returns c =
    let h : History = c.args.keys.now.history in
    c.makes_changes.ensures
    ∙ changes_alike h c.choose.result.now
    ∙ ap (λ ops. has_changes (changes_of_branch h ops)) (c.choose.ensures
    ∙ ap (λ f. chosen f c.args.txn.now) (c.find_failed-failed.ensures ∙ ap (first_failed (key_now h) 0) c.as_slice.ensures))
