use Rattle.std.proofs.Common.{◌+◌, ◌*◌}
use Rattle.stm_program.specs.BlockView.{block_of}
use Rattle.stm_program.specs.Weight.{statement_weight, block_weight}
use Rattle.stm_exploring.proofs.elses.+statements.Given as goal

abbrev pub decreases-has_else : goal.decreases-has_else
decreases-has_else l = 2 * statement_weight l.statement.now

abbrev pub decreases-has_else_within : goal.decreases-has_else_within
decreases-has_else_within l = 2 * block_weight l.block.now + 1

abbrev pub decreases-have_else : goal.decreases-have_else
decreases-have_else l = 2 * block_weight (block_of l.statements.now)
