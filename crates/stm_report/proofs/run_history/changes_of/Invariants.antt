use Rattle.std.proofs.Common.{◌≡◌, map, take}
use Rattle.stm_keys.specs.Events.{change_of_event}
use Rattle.stm_report.proofs.run_history.changes_of.Given as goal

-- the changes of the events so far
abbrev pub invariant-loop-event : goal.invariant-loop-event
invariant-loop-event l = l.changes.items ≡ map change_of_event (take l.event-index l.events)
