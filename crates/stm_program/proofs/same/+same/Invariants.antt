use Rattle.std.proofs.Common.{◌+◌, ◌*◌}
use Rattle.stm_program.specs.BlockView.{block_of}
use Rattle.stm_program.specs.Weight.{statement_weight, block_weight}
use Rattle.stm_program.proofs.same.+same.Given as goal

abbrev pub decreases-are_same_steps : goal.decreases-are_same_steps
decreases-are_same_steps l = 2 * statement_weight l.left.now

abbrev pub decreases-are_same_blocks : goal.decreases-are_same_blocks
decreases-are_same_blocks l = 2 * block_weight l.left.now + 1

abbrev pub decreases-are_same_statements : goal.decreases-are_same_statements
decreases-are_same_statements l = 2 * block_weight (block_of l.left.now)
