use Rattle.std.proofs.Common.{◌+◌, ◌*◌}
use Rattle.stm_program.specs.Size.{condition_nodes}
use Rattle.stm_program_json.proofs.spell.expressions.+write_conditions.Given as goal

abbrev pub decreases-condition_value : goal.decreases-condition_value
decreases-condition_value l = 2 * condition_nodes l.condition.now

abbrev pub decreases-conditions_value : goal.decreases-conditions_value
decreases-conditions_value l = 2 * (condition_nodes l.left.now + condition_nodes l.right.now) + 1
