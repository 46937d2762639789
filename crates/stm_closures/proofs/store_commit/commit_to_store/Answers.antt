use Rattle.std.proofs.Common.{rules}
use Rattle.stm_closures.proofs.Commits.{is_committed_by, turned_down_leaves_by}
use Rattle.stm_closures.proofs.store_commit.commit_to_store.Goals as goal

-- no compare failed
pub returns-then-is_none : goal.returns-then-is_none
returns-then-is_none c =
    is_committed_by c.args.store.now.standing c.keys.result.now.history c.args.level c.args.reads.now c.args.writes.now c.in_ok-txn.txn
    (record { answer = c.in_ok-answer.answer; next = c.txn.new.self.standing }) c.keys.ensures.history (search rules) (search rules) (search rules) (search rules)

-- one failed
pub returns : goal.returns
returns c =
    turned_down_leaves_by c.args.store.now.standing c.args.level c.args.reads.now c.args.writes.now c.in_ok-txn.txn
    (record { answer = c.in_ok-answer.answer; next = c.txn.new.self.standing }) (search rules) (search rules) (search rules)
