use Rattle.std.proofs.Common.{◌≡◌, ◌++◌, map, take}
use Rattle.serde_json.specs.View.{view}
use Rattle.stm_texts.specs.Writing.{written_event}
use Rattle.stm_compiling.proofs.line.push_events.Given as goal

-- the events so far are written
abbrev pub invariant-loop-event : goal.invariant-loop-event
invariant-loop-event l =
    map view l.elements.items ≡ map view l.fn.elements.items ++ map written_event (take l.event-index l.events)
