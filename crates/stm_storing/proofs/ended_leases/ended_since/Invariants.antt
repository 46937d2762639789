use Rattle.std.proofs.Common.{◌≤◌}
use Rattle.stm_storing.proofs.ended_leases.ended_since.Given as goal

-- no revision is looked at below the first one that is named
abbrev pub invariant-loop-revision : goal.invariant-loop-revision
invariant-loop-revision l = 1 ≤ l.revision
