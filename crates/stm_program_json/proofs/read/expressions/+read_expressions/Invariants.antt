use Rattle.std.proofs.Common.{◌+◌, ◌*◌}
use Rattle.stm_program_json.proofs.read.expressions.+read_expressions.Given as goal

abbrev pub decreases-expression : goal.decreases-expression
decreases-expression l = 8 * l.levels

abbrev pub decreases-expression_part : goal.decreases-expression_part
decreases-expression_part l = 8 * l.levels + 1

abbrev pub decreases-unary_expression : goal.decreases-unary_expression
decreases-unary_expression l = 8 * l.levels + 2

abbrev pub decreases-binary_expression : goal.decreases-binary_expression
decreases-binary_expression l = 8 * l.levels + 2

abbrev pub decreases-expression_named : goal.decreases-expression_named
decreases-expression_named l = 8 * l.levels + 3

abbrev pub decreases-expression_body : goal.decreases-expression_body
decreases-expression_body l = 8 * l.levels + 4
