use Rattle.std.proofs.Common.{◌≡◌, take, map}
use Rattle.stm_retry.specs.RunnerReturns.{key_read}
use Rattle.stm_retry.proofs.runner_steps.reads_reported.Given as goal

-- the answers so far are reported
abbrev pub invariant-loop-answer : goal.invariant-loop-answer
invariant-loop-answer l = l.reads ≡ map key_read (take l.answer-index l.answers)
