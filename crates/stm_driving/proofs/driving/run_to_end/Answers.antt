use Rattle.std.proofs.Common.{◌∙◌, refl, sym, ap}
use Rattle.stm_world.specs.World.{World}
use Rattle.stm_driving.specs.Driving.{after_steps}
use Rattle.stm_driving.proofs.OneStepMore.{one_step_more}
use Rattle.stm_driving.proofs.BrokenOff.{runs, broken_off}
use Rattle.stm_driving.proofs.driving.run_to_end.Goals as goal

pub loop-step-init : goal.loop-step-init
loop-step-init c = (
  refl,
  runs (record { program = c.args.program; level = c.args.level; limit = c.args.attempts }) c.args.world.now c.start.new.self c.in_ok-runner.runner
      (λ none. cc (c.in_ok-runner.ensures.bad_limit none)) c.in_ok-runner.ensures.number c.in_ok-runner.ensures.ok,
)

-- one step more
pub loop-step-preserved : goal.loop-step-preserved
loop-step-preserved c = (
  one_step_more c.in_ok-runner.runner c.loop-step._step c.start.new.self c.loop-step.world c.step.new.self c.loop-step.invariant.0
      c.in-Ok.ensures.reported.next_is,
  sym c.is_running.ensures ∙ c.if-not-is_running.false,
)

-- a step that was refused
pub returns-in-Err-clause-refused : goal.returns-in-Err-clause-refused
returns-in-Err-clause-refused c =
    broken_off (record { program = c.args.program; level = c.args.level; limit = c.args.attempts }) c.args.world.now c.loop-step.world c.step.new.self
    c.in_ok-runner.runner c.loop-step._step c.in-Err.denied c.in_ok-runner.ensures.number
    (c.loop-step.invariant.0 ∙ ap (λ (x : World). after_steps c.in_ok-runner.runner c.loop-step._step x) c.in_ok-runner.ensures.ok)
    c.loop-step.invariant.1 c.in-Err.ensures.reported
