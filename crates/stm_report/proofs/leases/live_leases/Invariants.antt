use Rattle.std.proofs.Common.{take}
use Rattle.stm_history.specs.Opening.{Opening}
use Rattle.stm_entries.specs.Replayed.{opened_with}
use Rattle.stm_entries.specs.Replay.{replay}
use Rattle.stm_entries.specs.LiveLeases.{HasLeases}
use Rattle.stm_report.proofs.leases.live_leases.Given as goal

-- the leases that are live after the entries so far
abbrev pub invariant-loop-entry : goal.invariant-loop-entry
invariant-loop-entry l = (start : Opening) → HasLeases l.leases (replay (take l.entry-index l.entries) (opened_with start)).live
