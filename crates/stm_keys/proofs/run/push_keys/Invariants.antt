use Rattle.std.proofs.Common.{◌≡◌, ◌++◌, map, take}
use Rattle.stm_keys.specs.Events.{key_of_event}
use Rattle.stm_keys.proofs.run.push_keys.Given as goal

-- the keys of the events so far
abbrev pub invariant-loop-event : goal.invariant-loop-event
invariant-loop-event l = l.keys.items ≡ l.fn.keys.items ++ map key_of_event (take l.event-index l.events)
