use Rattle.std.proofs.Common.{◌≡◌, ◌+◌, ◌≤◌, vec_len, vec_capacity}
use Rattle.stm_job.specs.Seats.{seat_view}
use Rattle.stm_workers.proofs.employing.start_all.Given as goal

-- each worker took a part and a pass, and there is room for the handles of all
abbrev pub invariant-loop-worker : goal.invariant-loop-worker
invariant-loop-worker g l =
    (vec_len l.started ≡ l._worker) × (l.workers ≤ vec_capacity l.started) × (l.coordinator.share.parts + l._worker ≡ l.workers + 1)
    × ((seat_view l.coordinator.seat).left + l._worker ≡ l.workers + 1)
