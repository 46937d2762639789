use Rattle.std.proofs.Common.{◌≡◌, take}
use Rattle.stm_watch.specs.Pending.{matching}
use Rattle.stm_watch.proofs.pending_revision.copy_matching.Given as goal

-- the copies so far
abbrev pub invariant-loop-event : goal.invariant-loop-event
invariant-loop-event l = l.copies.items ≡ matching l.watched (take l.event-index l.events)
