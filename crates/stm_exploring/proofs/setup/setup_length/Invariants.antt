use Rattle.std.proofs.Common.{◌≡◌, ◌≤◌, false, length, drop}
use Rattle.stm_schedules.specs.Scenarios.{has_start}
use Rattle.stm_exploring.proofs.setup.setup_length.Given as goal

-- no start stands after this event
abbrev pub invariant-loop-count : goal.invariant-loop-count
invariant-loop-count l = record {
  within : l.count ≤ length l.events;
  none : has_start (drop l.count l.events) ≡ false;
}

abbrev pub decreases-loop-count : goal.decreases-loop-count
decreases-loop-count l = l.count
