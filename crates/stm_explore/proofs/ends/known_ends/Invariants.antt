use Rattle.std.proofs.Common.{◌≡◌, ◌++◌, drop}
use Rattle.stm_schedules.specs.Outcomes.{known_ends}
use Rattle.stm_explore.proofs.ends.known_ends.Given as goal

-- the known ones so far, and those of the ends that are left
abbrev pub invariant-loop-end : goal.invariant-loop-end
invariant-loop-end l = l.list.items ++ known_ends (drop l.end-index l.ends) ≡ known_ends l.ends
