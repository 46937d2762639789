use Rattle.std.proofs.Common.{◌≡◌, ◌+◌, ◌++◌, drop, map}
use Rattle.stm_faulted_runs.specs.Places.{started_in}
use Rattle.stm_faulted_runs.specs.Origins.{started_as}
use Rattle.stm_faulted_runs.proofs.runs.runs_of.Given as goal

-- the runs so far, and after them those that are left
abbrev pub invariant-loop-index : goal.invariant-loop-index
invariant-loop-index l = map started_as l.runs.items ++ started_in (l.first + l.index) (drop l.index l.events) ≡ started_in l.first l.events
