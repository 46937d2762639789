use Rattle.std.proofs.Common.{◌+◌, ◌*◌}
use Rattle.stm_program.specs.BlockView.{block_of}
use Rattle.stm_program.specs.Weight.{statement_weight, block_weight}
use Rattle.stm_exploring.proofs.run_texts.+statements.Given as goal

abbrev pub decreases-add_statement : goal.decreases-add_statement
decreases-add_statement l = 2 * statement_weight l.statement.now

abbrev pub decreases-add_block : goal.decreases-add_block
decreases-add_block l = 2 * block_weight l.block.now + 1

abbrev pub decreases-add_statements : goal.decreases-add_statements
decreases-add_statements l = 2 * block_weight (block_of l.statements.now)
