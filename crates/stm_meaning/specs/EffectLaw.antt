-- What the effect of writes leaves of a key.
use Rattle.std.specs.Prelude.{◌≡◌, ℕ, Bool, List, Option, None, Some, if◌then◌else◌}
use Rattle.stm_history.specs.declared.change.Change.{Change}
use Rattle.stm_meaning.specs.Writes.{last_write, changes, effect}

-- a write where it changes something
abbrev pub kept_by : (Change → Bool) → Option Change → Option Change
kept_by test None = None
kept_by test (Some w) = if test w then Some w else None

-- the last write of a key in the effect is the key's last write, or nothing where that one changes nothing
abbrev pub EffectLeavesLastWrites : Type 0
EffectLeavesLastWrites = (is_present : List ℕ → Bool) (writes : List Change) (key : List ℕ) →
    last_write key (effect is_present writes) ≡ kept_by (changes is_present) (last_write key writes)
