use Rattle.std.proofs.Common.{◌≡◌, length}
use Rattle.stm_exploring.proofs.judging.are_open.Given as goal

-- as many as answers that were gone through
abbrev pub invariant-loop-answer : goal.invariant-loop-answer
invariant-loop-answer l = length l.asked.items ≡ l.answer-index
