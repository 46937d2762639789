use Rattle.std.proofs.Common.{take}
use Rattle.stm_entries.specs.Replayed.{Replayed}
use Rattle.stm_entries.specs.Replay.{replay}
use Rattle.stm_entries.specs.LiveLeases.{HasLeases}
use Rattle.stm_entries.specs.Entered.{expiries}
use Rattle.stm_check.proofs.leases.expire.Given as goal

-- those that have expired so far are live no more
abbrev pub invariant-loop-lease : goal.invariant-loop-lease
invariant-loop-lease l =
    (r : Replayed) → HasLeases l.fn.leases r.live → HasLeases l.leases (replay (expiries (take l.lease-index l.expired)) r).live
