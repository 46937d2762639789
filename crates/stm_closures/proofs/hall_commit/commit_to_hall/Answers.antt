use Rattle.std.proofs.Common.{rules}
use Rattle.stm_closures.proofs.HallCommits.{committed_in_hall, turned_down_in_hall}
use Rattle.stm_closures.proofs.hall_commit.commit_to_hall.Goals as goal

-- no compare failed
pub returns-then-is_none-clause-outcome : goal.returns-then-is_none-clause-outcome
returns-then-is_none-clause-outcome c =
    committed_in_hall c.args.hall.now c.args.level c.args.reads.now c.args.writes.now c.in_ok-txn.txn
    (record { answer = c.in_ok-answer.answer; next = c.foreign.new.self }) (search rules) (search rules) (search rules) (search rules)

-- one failed
pub returns-clause-outcome : goal.returns-clause-outcome
returns-clause-outcome c =
    turned_down_in_hall c.args.hall.now c.args.level c.args.reads.now c.args.writes.now c.in_ok-txn.txn
    (record { answer = c.in_ok-answer.answer; next = c.foreign.new.self }) (search rules) (search rules) (search rules)
