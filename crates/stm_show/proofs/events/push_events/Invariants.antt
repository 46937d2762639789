use Rattle.std.proofs.Common.{◌≡◌, ◌<◌, ◌++◌, length}
use Rattle.std.specs.Prelude.{string_bytes}
use Rattle.stm_show.specs.Events.{shown_events}
use Rattle.stm_show.specs.declared.events.TheConstants.{MOST_STEPS}
use Rattle.stm_show.proofs.events.push_events.Given as goal

-- what was added so far, and the events that are left
abbrev pub invariant-loop-event : goal.invariant-loop-event
invariant-loop-event l = record {
  text : string_bytes l.out ++ shown_events l.steps l.left ≡ string_bytes l.fn.out ++ shown_events 0 l.events;
  room : l.steps < MOST_STEPS;
}

abbrev pub decreases-loop-event : goal.decreases-loop-event
decreases-loop-event l = length l.left
