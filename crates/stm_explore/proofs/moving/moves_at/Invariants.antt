use Rattle.std.proofs.Common.{◌≡◌}
use Rattle.stm_schedules.specs.Places.{steps_up_to}
use Rattle.stm_explore.proofs.moving.moves_at.Given as goal

abbrev pub invariant-loop-index : goal.invariant-loop-index
invariant-loop-index l = l.left.items ≡ steps_up_to l.index l.world.runners
