use Rattle.std.proofs.Common.{◌≡◌, map, take}
use Rattle.stm_storing.specs.Jobs.{event_of}
use Rattle.stm_storing.proofs.jobs.events_of.Given as goal

-- the events of the calls so far
abbrev pub invariant-loop-call : goal.invariant-loop-call
invariant-loop-call l = l.events.items ≡ map event_of (take l.call-index l.calls)
