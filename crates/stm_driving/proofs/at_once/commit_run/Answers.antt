use Rattle.std.proofs.Common.{ℕ, ◌≤◌, ◌∙◌, ap, refl, subst, rules}
use Rattle.stm_history.specs.declared.revisions.TheConstants.{HIGHEST_REVISION}
use Rattle.stm_history.specs.History.{History, now}
use Rattle.stm_driving.proofs.NoneFails.{committed_at_once}
use Rattle.stm_driving.proofs.at_once.commit_run.Goals as goal

-- no compare fails
pub returns-clause-ok : goal.returns-clause-ok
returns-clause-ok c =
    let s = c.args.store.now.standing in
    let counter = c.revision-counter.ensures in
    let high = subst (λ (n : ℕ). n ≤ HIGHEST_REVISION) (counter.value ∙ ap (λ (h : History). now h) c.keys.ensures.history) counter.bounded in
    committed_at_once c.args.level c.args.run.now s c.txn.new.self.standing s.history c.in_ok-reads.reads c.in_ok-writes.writes c.in_ok-txn.txn
    c.in_ok-txn-2.field-0 refl high c.in_ok-reads.ensures (search rules) (search rules) (search rules)
