use Rattle.std.proofs.Common.{◌+◌, ◌*◌}
use Rattle.stm_program.specs.BlockView.{block_of}
use Rattle.stm_program.specs.Weight.{statement_weight, block_weight}
use Rattle.stm_marks.proofs.finding.+finding.Given as goal

abbrev pub decreases-place_in_statement : goal.decreases-place_in_statement
decreases-place_in_statement l = 2 * statement_weight l.statement.now

abbrev pub decreases-place_in_block : goal.decreases-place_in_block
decreases-place_in_block l = 2 * block_weight l.block.now + 1

abbrev pub decreases-place_in : goal.decreases-place_in
decreases-place_in l = 2 * block_weight (block_of l.statements.now)
