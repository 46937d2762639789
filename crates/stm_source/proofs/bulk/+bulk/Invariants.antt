use Rattle.std.proofs.Common.{◌+◌, ◌*◌}
use Rattle.stm_program.specs.BlockView.{block_of}
use Rattle.stm_program.specs.Weight.{statement_weight, block_weight}
use Rattle.stm_source.proofs.bulk.+bulk.Given as goal

abbrev pub decreases-statement_room : goal.decreases-statement_room
decreases-statement_room l = 2 * statement_weight l.statement.now

abbrev pub decreases-block_room : goal.decreases-block_room
decreases-block_room l = 2 * block_weight l.block.now + 1

abbrev pub decreases-statements_room : goal.decreases-statements_room
decreases-statements_room l = 2 * block_weight (block_of l.statements.now)
