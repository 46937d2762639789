use Rattle.std.proofs.Common.{◌≡◌, length}
use Rattle.stm_check.proofs.CommitLemmas.{LeavesKeys}
use Rattle.stm_check.proofs.commits.are_of_keys.Given as goal

-- the keys so far are the same
abbrev pub invariant-loop-i : goal.invariant-loop-i
invariant-loop-i l = (length l.answers ≡ length l.keys) × LeavesKeys l.answers l.keys l.i
