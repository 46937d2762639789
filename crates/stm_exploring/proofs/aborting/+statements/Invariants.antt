use Rattle.std.proofs.Common.{◌+◌, ◌*◌}
use Rattle.stm_program.specs.BlockView.{block_of}
use Rattle.stm_program.specs.Weight.{statement_weight, block_weight}
use Rattle.stm_exploring.proofs.aborting.+statements.Given as goal

abbrev pub decreases-has_abort : goal.decreases-has_abort
decreases-has_abort l = 2 * statement_weight l.statement.now

abbrev pub decreases-has_abort_within : goal.decreases-has_abort_within
decreases-has_abort_within l = 2 * block_weight l.block.now + 1

abbrev pub decreases-have_abort : goal.decreases-have_abort
decreases-have_abort l = 2 * block_weight (block_of l.statements.now)
