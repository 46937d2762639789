use Rattle.stm_attempt.proofs.AttemptLemmas.{asked_reported, list_reported}
use Rattle.stm_attempt.proofs.attempt.Attempt.advance.Goals as goal

pub returns-then-is_none-clause-asked : goal.returns-then-is_none-clause-asked
returns-then-is_none-clause-asked c =
    asked_reported c.args.program.now c.args.self.now c.first_advance.new.self c.first_advance.result c.first_advance.ensures.ok c.first_advance.ensures.next

pub returns-then-is_none-clause-list : goal.returns-then-is_none-clause-list
returns-then-is_none-clause-list c =
    list_reported c.args.program.now c.args.self.now c.first_advance.new.self c.first_advance.result c.first_advance.ensures.ok c.first_advance.ensures.next

pub returns-else-is_none-clause-asked : goal.returns-else-is_none-clause-asked
returns-else-is_none-clause-asked c =
    asked_reported c.args.program.now c.args.self.now c.next_advance.new.self c.next_advance.result c.next_advance.ensures.ok c.next_advance.ensures.next

pub returns-else-is_none-clause-list : goal.returns-else-is_none-clause-list
returns-else-is_none-clause-list c =
    list_reported c.args.program.now c.args.self.now c.next_advance.new.self c.next_advance.result c.next_advance.ensures.ok c.next_advance.ensures.next
