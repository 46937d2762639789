use Rattle.stm_attempt.proofs.AttemptLemmas.{left_asked_reported, left_list_reported}
use Rattle.stm_attempt.proofs.attempt.Attempt.advance_and_give.Goals as goal

pub returns-then-is_none-clause-asked : goal.returns-then-is_none-clause-asked
returns-then-is_none-clause-asked c =
    left_asked_reported c.args.program.now c.args.self.now c.first_and_give.new.self c.first_and_give.result c.first_and_give.ensures.left c.first_and_give.ensures.next

pub returns-then-is_none-clause-list : goal.returns-then-is_none-clause-list
returns-then-is_none-clause-list c =
    left_list_reported c.args.program.now c.args.self.now c.first_and_give.new.self c.first_and_give.result c.first_and_give.ensures.left c.first_and_give.ensures.next

pub returns-else-is_none-clause-asked : goal.returns-else-is_none-clause-asked
returns-else-is_none-clause-asked c =
    left_asked_reported c.args.program.now c.args.self.now c.next_and_give.new.self c.next_and_give.result c.next_and_give.ensures.left c.next_and_give.ensures.next

pub returns-else-is_none-clause-list : goal.returns-else-is_none-clause-list
returns-else-is_none-clause-list c =
    left_list_reported c.args.program.now c.args.self.now c.next_and_give.new.self c.next_and_give.result c.next_and_give.ensures.left c.next_and_give.ensures.next
