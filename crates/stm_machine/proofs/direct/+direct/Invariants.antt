use Rattle.std.proofs.Common.{◌+◌, ◌*◌}
use Rattle.stm_program.specs.Size.{expression_nodes}
use Rattle.stm_machine.proofs.direct.+direct.Given as goal

abbrev pub decreases-value_of : goal.decreases-value_of
decreases-value_of l = 2 * expression_nodes l.expression.now

abbrev pub decreases-combined : goal.decreases-combined
decreases-combined l = 2 * (expression_nodes l.left.now + expression_nodes l.right.now) + 1

abbrev pub decreases-joined : goal.decreases-joined
decreases-joined l = 2 * (expression_nodes l.left.now + expression_nodes l.right.now) + 1

abbrev pub decreases-spelled : goal.decreases-spelled
decreases-spelled l = 2 * expression_nodes l.number.now + 1

abbrev pub decreases-number_in : goal.decreases-number_in
decreases-number_in l = 2 * expression_nodes l.text.now + 1
