use Rattle.std.proofs.Common.{◌+◌, ◌*◌}
use Rattle.stm_program.specs.Size.{expression_nodes}
use Rattle.stm_terms.specs.Uses.{other_nodes, others_nodes}
use Rattle.stm_terms.proofs.uses.+copy.Given as goal

abbrev pub decreases-copy_look_ups : goal.decreases-copy_look_ups
decreases-copy_look_ups l = 4 * (expression_nodes l.value.now + others_nodes l.own.now)

abbrev pub decreases-look_ups_in : goal.decreases-look_ups_in
decreases-look_ups_in l = 4 * (expression_nodes l.value.now + others_nodes l.own.now) + 1

abbrev pub decreases-copy_other : goal.decreases-copy_other
decreases-copy_other l = 4 * (other_nodes l.other.now + others_nodes l.own.now) + 2

abbrev pub decreases-copy_look_up : goal.decreases-copy_look_up
decreases-copy_look_up l = 4 * others_nodes l.own.now + 3
