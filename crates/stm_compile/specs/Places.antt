-- Where the answer for each key stands among the answers of an attempt.
use Rattle.std.specs.Prelude.{◌≡◌, ℕ, ◌<◌, bytes_eq, List, drop, length, map, Option, None, Some, slice_get}
use Rattle.std.specs.List.{IsDistinct}
use Rattle.stm_history.specs.declared.key_state.ReadAnswer.{ReadAnswer}
use Rattle.stm_compile.specs.Answers.{answer_in}

-- the answer at a place, where there is a place
abbrev pub answer_at : List ReadAnswer → Option ℕ → Option ReadAnswer
answer_at answers None = None
answer_at answers (Some i) = slice_get answers i

-- under each key is the place of its answer, and under no other key is a place
pub record AreAnswerPlaces (answers : List ReadAnswer) (places : List ℕ → Option ℕ) : Type 0 where
  pub within : (key : List ℕ) (i : ℕ) → places key ≡ Some i → i < length answers
  pub answer : (key : List ℕ) → answer_at answers (places key) ≡ answer_in key answers

-- What an attempt has read: no two answers are of one key, and those after the first `searched` stand in an index.
pub record AreRead (searched : ℕ) (answers : List ReadAnswer) (places : List ℕ → Option ℕ) : Type 0 where
  pub placed : AreAnswerPlaces (drop searched answers) places
  pub distinct : IsDistinct bytes_eq (map (λ (a : ReadAnswer). a.key) answers)
