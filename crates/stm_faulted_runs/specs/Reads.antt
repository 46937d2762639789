-- What the answers of a run say of a key.
use Rattle.std.specs.Prelude.{List, option_map, min}
use Rattle.stm_history.specs.declared.key_state.ReadAnswer.{ReadAnswer}
use Rattle.stm_history.specs.declared.revisions.TheConstants.{HIGHEST_NUMBER}
use Rattle.stm_history.specs.History.{value_of, mod_of}
use Rattle.stm_steps.specs.Answer.{Answer, Lookup}
use Rattle.stm_compile.specs.Answers.{answer_in}

-- the value of its key and its modification revision, which is at most `HIGHEST_NUMBER` in each answer of a store
abbrev pub reported_of : ReadAnswer → Answer
reported_of a = record { value = value_of a.kv; mod_rev = min (mod_of a.kv) HIGHEST_NUMBER }

-- the look-up of a run over these answers, and nothing of other keys
abbrev pub reported_in : List ReadAnswer → Lookup
reported_in answers key = option_map reported_of (answer_in key answers)
