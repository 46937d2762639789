use Rattle.std.proofs.Common.{◌≡◌, map, take}
use Rattle.stm_history.specs.declared.key_state.ReadAnswer.{ReadAnswer}
use Rattle.stm_compile.specs.Answers.{answer_now}
use Rattle.stm_journal.proofs.rereads.read_each.Given as goal

-- what the keys of the answers so far are now
abbrev pub invariant-loop-answer : goal.invariant-loop-answer
invariant-loop-answer l =
    l.again.items ≡ map (answer_now l.keys.history) (map (λ (a : ReadAnswer). a.key) (take l.answer-index l.answers))
