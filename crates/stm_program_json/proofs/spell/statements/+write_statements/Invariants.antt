use Rattle.std.proofs.Common.{◌≡◌, ◌+◌, ◌*◌, drop, map}
use Rattle.serde_json.specs.View.{view}
use Rattle.stm_program.specs.BlockView.{block_of}
use Rattle.stm_program.specs.Weight.{statement_weight, block_weight}
use Rattle.stm_program_json.specs.Writing.{items_after, written_statements}
use Rattle.stm_program_json.proofs.spell.statements.+write_statements.Given as goal

abbrev pub decreases-statement_value : goal.decreases-statement_value
decreases-statement_value l = 4 * statement_weight l.statement.now

abbrev pub decreases-choice_value : goal.decreases-choice_value
decreases-choice_value l = 4 * (block_weight l.yes.now + block_weight l.no.now) + 3

abbrev pub decreases-repetition_value : goal.decreases-repetition_value
decreases-repetition_value l = 4 * block_weight l.body.now + 3

abbrev pub decreases-block_value : goal.decreases-block_value
decreases-block_value l = 4 * block_weight l.block.now + 2

abbrev pub decreases-statements_value : goal.decreases-statements_value
decreases-statements_value l = 4 * block_weight (block_of l.statements.now) + 1

abbrev pub decreases-statements_after : goal.decreases-statements_after
decreases-statements_after l = 4 * block_weight (block_of l.statements.now)

-- the values so far, and then what is written of the rest
abbrev pub invariant-statements_after-loop-statement : goal.invariant-statements_after-loop-statement
invariant-statements_after-loop-statement l =
    items_after (map view l.values.items) (written_statements (block_of (drop l.statement-index l.statements)))
    ≡ items_after (map view l.fn.before.items) (written_statements (block_of l.statements))
