use Rattle.std.proofs.Common.{◌+◌, ◌≤◌, length, drop}
use Rattle.stm_entries.specs.LiveLeases.{HasLeases}
use Rattle.stm_check.specs.Points.{point_of}
use Rattle.stm_check.proofs.Walking.{HasWalked}
use Rattle.stm_check.proofs.checking.first_wrong_event.Given as goal

-- the lines so far are right, and the point is the one that they lead to
abbrev pub invariant-loop-index : goal.invariant-loop-index
invariant-loop-index l =
    HasWalked 1 (point_of l.fn.point) l.events l.lines (l.index + 1) (point_of l.point) (drop l.index l.events) (drop l.index l.lines)
    × HasLeases l.point.leases l.point.store.standing.live × (l.index ≤ length l.lines)
