use Rattle.std.proofs.Common.{◌≤◌, length, drop}
use Rattle.stm_check.proofs.Walking.{HasAgreed}
use Rattle.stm_check.proofs.finals.first_off.Given as goal

-- the lines so far are those that are wanted
abbrev pub invariant-loop-index : goal.invariant-loop-index
invariant-loop-index l =
    HasAgreed l.wanted l.lines l.index (drop l.index l.wanted) (drop l.index l.lines) × (l.index ≤ length l.wanted)
