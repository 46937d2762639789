use Rattle.std.proofs.Common.{◌+◌, ◌*◌}
use Rattle.stm_program.specs.BlockView.{block_of}
use Rattle.stm_program.specs.Weight.{statement_weight, block_weight}
use Rattle.stm_program.proofs.limits.+left.Given as goal

abbrev pub decreases-statement_left : goal.decreases-statement_left
decreases-statement_left l = 2 * statement_weight l.statement.now

abbrev pub decreases-block_left : goal.decreases-block_left
decreases-block_left l = 2 * block_weight l.block.now + 1

abbrev pub decreases-statements_left : goal.decreases-statements_left
decreases-statements_left l = 2 * block_weight (block_of l.statements.now)
