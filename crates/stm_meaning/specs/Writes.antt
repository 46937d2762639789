-- What the writes of a run change in a state. What they say of a key, and the last write of each key, stand in stm_program.
pub use Rattle.stm_program.specs.Writes.{last_write, is_written, latest_of, latest_after, latest_writes}
use Rattle.std.specs.Prelude.{ℕ, Bool, true, List, filter}
use Rattle.stm_history.specs.declared.change.Change.{Change}
use Rattle.stm_history.specs.declared.change.Change.TheVariants.{Put, Del}

-- a write changes something unless it deletes a key that is absent
abbrev pub changes : (List ℕ → Bool) → Change → Bool
changes is_present (Put key value lease) = true
changes is_present (Del key) = is_present key

-- The effect of writes on a state: for each key, in the order of first writes, its last write; deletes of absent keys
-- are left out.
unfoldable pub effect : (List ℕ → Bool) → List Change → List Change
effect is_present writes = filter (changes is_present) (latest_writes writes)
