use Rattle.std.proofs.Common.{◌≡◌, ◌+◌, ◌<◌, vec_len}
use Rattle.stm_job.specs.Seats.{seat_view}
use Rattle.stm_workers.proofs.employing.join_all.Given as goal

-- each worker that was joined gave back a part and a pass that it had used
abbrev pub invariant-loop-handle : goal.invariant-loop-handle
invariant-loop-handle g l =
    (l.coordinator.share.parts + vec_len l.started ≡ l.fn.coordinator.share.parts + vec_len l.fn.started)
    × (0 < (seat_view l.coordinator.seat).past + vec_len l.started)

abbrev pub decreases-loop-handle : goal.decreases-loop-handle
decreases-loop-handle g l = vec_len l.started
