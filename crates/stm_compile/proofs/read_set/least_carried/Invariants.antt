use Rattle.std.proofs.Common.{◌≡◌, drop}
use Rattle.std.specs.Prelude.{fold, min}
use Rattle.stm_history.specs.declared.key_state.ReadAnswer.{ReadAnswer}
use Rattle.stm_compile.proofs.read_set.least_carried.Given as goal

-- the least of what is found and the rest
abbrev pub invariant-loop-answer : goal.invariant-loop-answer
invariant-loop-answer l =
    fold (λ least (b : ReadAnswer). min least b.revision) l.least (drop l.answer-index l.answers)
    ≡ fold (λ least (b : ReadAnswer). min least b.revision) l.fn.first l.answers
