use Rattle.std.proofs.Common.{◌≡◌, map, take}
use Rattle.stm_history.specs.declared.key_state.ReadAnswer.{ReadAnswer}
use Rattle.stm_outcome.specs.Commits.{read_now}
use Rattle.stm_compile.proofs.commit.reads_again.Given as goal

-- a read for each answer so far
abbrev pub invariant-loop-answer : goal.invariant-loop-answer
invariant-loop-answer l = l.ops.items ≡ map read_now (map (λ (a : ReadAnswer). a.key) (take l.answer-index l.answers))
