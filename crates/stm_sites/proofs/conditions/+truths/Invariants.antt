use Rattle.std.proofs.Common.{◌+◌, ◌*◌}
use Rattle.stm_program.specs.Size.{condition_nodes}
use Rattle.stm_sites.proofs.conditions.+truths.Given as goal

abbrev pub decreases-part_met : goal.decreases-part_met
decreases-part_met g l = 2 * condition_nodes l.condition.now + 1

abbrev pub decreases-is_met : goal.decreases-is_met
decreases-is_met g l = 2 * condition_nodes l.condition.now
