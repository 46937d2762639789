use Rattle.std.proofs.Common.{◌+◌, ◌*◌}
use Rattle.stm_program.specs.Size.{expression_nodes}
use Rattle.stm_program_source.proofs.expressions.+push_expressions.Given as goal

abbrev pub decreases-push_expression : goal.decreases-push_expression
decreases-push_expression l = 3 * expression_nodes l.expression.now

abbrev pub decreases-push_call : goal.decreases-push_call
decreases-push_call l = 3 * expression_nodes l.argument.now + 1

abbrev pub decreases-push_operand : goal.decreases-push_operand
decreases-push_operand l = 3 * expression_nodes l.operand.now + 1

abbrev pub decreases-push_operation : goal.decreases-push_operation
decreases-push_operation l = 3 * (expression_nodes l.left.now + expression_nodes l.right.now) + 2
