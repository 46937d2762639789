use Rattle.std.proofs.Common.{◌≡◌, take}
use Rattle.stm_keys.proofs.keys.copy_events.Given as goal

-- the events so far
abbrev pub invariant-loop-event : goal.invariant-loop-event
invariant-loop-event l = l.copy.items ≡ take l.event-index l.events
