use Rattle.std.proofs.Common.{◌≡◌, drop}
use Rattle.stm_compile.specs.Answers.{answer_in}
use Rattle.stm_faulted_runs.proofs.reads.answer_for.Given as goal

-- the answer is looked for in the rest
abbrev pub invariant-loop-answer : goal.invariant-loop-answer
invariant-loop-answer l = answer_in l.key (drop l.answer-index l.answers) ≡ answer_in l.key l.answers
