use Rattle.std.proofs.Common.{◌+◌, ◌*◌}
use Rattle.stm_program.specs.Size.{expression_nodes}
use Rattle.stm_program_json.proofs.spell.expressions.+write_expressions.Given as goal

abbrev pub decreases-expression_value : goal.decreases-expression_value
decreases-expression_value l = 2 * expression_nodes l.expression.now

abbrev pub decreases-expressions_value : goal.decreases-expressions_value
decreases-expressions_value l = 2 * (expression_nodes l.left.now + expression_nodes l.right.now) + 1
