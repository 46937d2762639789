use Rattle.stm_keys.specs.Events.{key_of_event}
use Rattle.stm_storing.specs.Past.{Adds, StandsBelow}
use Rattle.stm_storing.proofs.past.add_changed.Given as goal

-- the keys of the events so far were added
abbrev pub invariant-loop-event : goal.invariant-loop-event
invariant-loop-event l = Adds l.keys.history l.revision (StandsBelow key_of_event l.events l.event-index) l.fn.past.entries l.past.entries
