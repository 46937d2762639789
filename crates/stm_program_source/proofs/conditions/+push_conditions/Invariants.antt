use Rattle.std.proofs.Common.{◌+◌, ◌*◌}
use Rattle.stm_program.specs.Size.{condition_nodes}
use Rattle.stm_program_source.proofs.conditions.+push_conditions.Given as goal

abbrev pub decreases-push_condition : goal.decreases-push_condition
decreases-push_condition l = 3 * condition_nodes l.condition.now

abbrev pub decreases-push_negated : goal.decreases-push_negated
decreases-push_negated l = 3 * condition_nodes l.condition.now + 1

abbrev pub decreases-push_operand : goal.decreases-push_operand
decreases-push_operand l = 3 * condition_nodes l.operand.now + 1

abbrev pub decreases-push_connected : goal.decreases-push_connected
decreases-push_connected l = 3 * (condition_nodes l.left.now + condition_nodes l.right.now) + 2
