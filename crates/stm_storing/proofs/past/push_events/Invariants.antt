use Rattle.std.proofs.Common.{◌≡◌, ◌++◌, take, string_bytes}
use Rattle.std.specs.List.{flat_map}
use Rattle.stm_storing.specs.Past.{event_text}
use Rattle.stm_storing.proofs.past.push_events.Given as goal

-- the lines of the events so far
abbrev pub invariant-loop-event : goal.invariant-loop-event
invariant-loop-event l =
    string_bytes l.text ≡ string_bytes l.fn.text ++ flat_map (event_text l.wanted) (take l.event-index l.events)
