use Rattle.std.proofs.Common.{drop}
use Rattle.stm_check.proofs.LookupLemmas.{LeavesTruth}
use Rattle.stm_check.proofs.lookups.are_truly_reported.Given as goal

-- the answers so far are true
abbrev pub invariant-loop-answer : goal.invariant-loop-answer
invariant-loop-answer l = LeavesTruth l.keys.history l.answers (drop l.answer-index l.answers)
