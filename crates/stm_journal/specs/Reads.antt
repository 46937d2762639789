-- The answers of reads, among those of a transaction.
use Rattle.std.specs.Prelude.{List, [], ◌∷◌}
use Rattle.stm_history.specs.declared.key_state.ReadAnswer.{ReadAnswer}
use Rattle.stm_outcome.specs.declared.answer.OpAnswer.{OpAnswer}
use Rattle.stm_outcome.specs.declared.answer.OpAnswer.TheVariants.{Get, Put, Del}

-- what the reads answered, in order
abbrev pub reads_in : List OpAnswer → List ReadAnswer
reads_in [] = []
reads_in (Get read ∷ answers) = read ∷ reads_in answers
reads_in (Put ∷ answers) = reads_in answers
reads_in (Del count ∷ answers) = reads_in answers
