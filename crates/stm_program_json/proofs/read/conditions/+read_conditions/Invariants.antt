use Rattle.std.proofs.Common.{◌+◌, ◌*◌}
use Rattle.stm_program_json.proofs.read.conditions.+read_conditions.Given as goal

abbrev pub decreases-condition : goal.decreases-condition
decreases-condition l = 8 * l.levels

abbrev pub decreases-condition_part : goal.decreases-condition_part
decreases-condition_part l = 8 * l.levels + 1

abbrev pub decreases-negation : goal.decreases-negation
decreases-negation l = 8 * l.levels + 2

abbrev pub decreases-connective_condition : goal.decreases-connective_condition
decreases-connective_condition l = 8 * l.levels + 2

abbrev pub decreases-condition_named : goal.decreases-condition_named
decreases-condition_named l = 8 * l.levels + 3

abbrev pub decreases-condition_array : goal.decreases-condition_array
decreases-condition_array l = 8 * l.levels + 4
