-- Where the last write of each key stands among the writes of a run.
use Rattle.std.specs.Prelude.{◌≡◌, ℕ, ◌<◌, List, length, Option, None, Some, slice_get}
use Rattle.stm_history.specs.declared.change.Change.{Change}
use Rattle.stm_program.specs.Writes.{last_write}

-- the write at a place, where there is a place
abbrev pub write_at : List Change → Option ℕ → Option Change
write_at writes None = None
write_at writes (Some i) = slice_get writes i

-- under each key is the place of its last write, and under no other key is a place
pub record AreLastPlaces (writes : List Change) (places : List ℕ → Option ℕ) : Type 0 where
  pub within : (key : List ℕ) (i : ℕ) → places key ≡ Some i → i < length writes
  pub last : (key : List ℕ) → write_at writes (places key) ≡ last_write key writes
