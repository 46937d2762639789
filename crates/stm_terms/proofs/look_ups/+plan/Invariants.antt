use Rattle.std.proofs.Common.{◌+◌, ◌*◌}
use Rattle.stm_terms.proofs.look_ups.+plan.Given as goal

abbrev pub decreases-plan : goal.decreases-plan
decreases-plan l = 5 * l.most

abbrev pub decreases-planned_front : goal.decreases-planned_front
decreases-planned_front l = 5 * l.most + 1

abbrev pub decreases-else_block : goal.decreases-else_block
decreases-else_block l = 5 * l.most + 2

abbrev pub decreases-plan_first : goal.decreases-plan_first
decreases-plan_first l = 5 * l.most + 3

abbrev pub decreases-plan_some : goal.decreases-plan_some
decreases-plan_some l = 5 * l.most + 4
