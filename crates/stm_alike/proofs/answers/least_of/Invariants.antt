use Rattle.std.proofs.Common.{◌≡◌, fold, min, drop}
use Rattle.stm_history.specs.declared.key_state.ReadAnswer.{ReadAnswer}
use Rattle.stm_alike.proofs.answers.least_of.Given as goal

abbrev pub invariant-loop-answer : goal.invariant-loop-answer
invariant-loop-answer l =
    fold (λ least (b : ReadAnswer). min least b.revision) l.fn.first l.answers ≡ fold (λ least (b : ReadAnswer). min least b.revision) l.least (drop l.answer-index l.answers)
