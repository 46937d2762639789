use Rattle.std.proofs.Common.{◌≡◌, ◌++◌, ◌-◌}
use Rattle.stm_events.specs.declared.event.WorldEvent.TheVariants.{Step}
use Rattle.stm_source.specs.Events.{copies}
use Rattle.stm_source.proofs.steps.push_steps.Given as goal

-- those so far, and those that are left
abbrev pub invariant-loop-done : goal.invariant-loop-done
invariant-loop-done l =
    l.events ++ copies (l.fn.times - l._done) (Step l.fn.runner) ≡ l.fn.events ++ copies l.fn.times (Step l.fn.runner)
