use Rattle.std.proofs.Common.{◌≡◌, true}
use Rattle.std.specs.Prelude.{is_some}
use Rattle.stm_world.specs.World.{runner_at}
use Rattle.stm_driving.specs.Driving.{after_steps}
use Rattle.stm_driving.proofs.driving.run_to_end.Given as goal

-- the runner made this many steps, and has not ended
abbrev pub invariant-loop-step : goal.invariant-loop-step
invariant-loop-step l = (l.world ≡ after_steps l.runner l._step l.initial.world) × (is_some (runner_at l.runner l.world.runners) ≡ true)
