use Rattle.std.proofs.Common.{◌≡◌, ◌+◌, ◌*◌, ◌++◌, drop}
use Rattle.std.specs.Prelude.{string_bytes}
use Rattle.stm_program.specs.BlockView.{block_of}
use Rattle.stm_program.specs.Weight.{statement_weight, block_weight}
use Rattle.stm_program_source.specs.Texts.{lines}
use Rattle.stm_program_source.specs.Statements.{shown_statements}
use Rattle.stm_program_source.proofs.statements.+push_statements.Given as goal

abbrev pub decreases-push_statement : goal.decreases-push_statement
decreases-push_statement l = 5 * statement_weight l.statement.now

abbrev pub decreases-push_choice : goal.decreases-push_choice
decreases-push_choice l = 5 * (block_weight l.yes.now + block_weight l.no.now) + 4

abbrev pub decreases-push_repetition : goal.decreases-push_repetition
decreases-push_repetition l = 5 * block_weight l.body.now + 4

abbrev pub decreases-push_otherwise : goal.decreases-push_otherwise
decreases-push_otherwise l = 5 * block_weight (block_of l.statements.now) + 3

abbrev pub decreases-push_block : goal.decreases-push_block
decreases-push_block l = 5 * block_weight (block_of l.statements.now) + 2

abbrev pub decreases-push_filled : goal.decreases-push_filled
decreases-push_filled l = 5 * block_weight (block_of l.statements.now) + 1

abbrev pub decreases-push_lines : goal.decreases-push_lines
decreases-push_lines l = 5 * block_weight (block_of l.statements.now)

-- what was added so far, and the statements that are left
abbrev pub invariant-push_lines-loop-statement : goal.invariant-push_lines-loop-statement
invariant-push_lines-loop-statement l =
    string_bytes l.out ++ lines l.blocks (shown_statements l.blocks (block_of (drop l.statement-index l.statements)))
    ≡ string_bytes l.fn.out ++ lines l.blocks (shown_statements l.blocks (block_of l.statements))
