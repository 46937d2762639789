use Rattle.std.proofs.Common.{◌≡◌, ◌++◌, map, drop}
use Rattle.serde_json.specs.View.{view}
use Rattle.stm_texts.specs.Writing.{written_event}
use Rattle.stm_schedules.specs.Schedules.{events_along}
use Rattle.stm_exploring.proofs.schedule_lines.push_moves.Given as goal

-- what is written so far, and the events of the moves that are left
abbrev pub invariant-loop-chosen : goal.invariant-loop-chosen
invariant-loop-chosen l =
    map view l.elements.items ++ map written_event (events_along (drop l.chosen-index l.moves) l.left)
    ≡ map view l.fn.elements.items ++ map written_event (events_along l.moves l.others)
