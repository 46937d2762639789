-- The state of a store, as programs run on it.
--
-- etcd's API reference, "Range": a read without a revision shows the keys that are present now.
use Rattle.std.specs.Prelude.{◌≡◌, ℕ, Bool, if◌then◌else◌, List, Option, None, Some}
use Rattle.stm_history.specs.declared.key_state.KeyState.{KeyState}
use Rattle.stm_history.specs.History.{History, key_now}
use Rattle.stm_steps.specs.declared.state.StateEntry.{StateEntry}
use Rattle.stm_meaning.specs.States.{find_entry}

-- what the state has under a key
abbrev pub entry_now : List ℕ → Option KeyState → Option StateEntry
entry_now key None = None
entry_now key (Some s) = Some record { key = key; value = s.value; mod_rev = s.mod_rev }

-- The entries are the state of a history at its last revision: each key has the value and the modification
-- revision that it has there.
abbrev pub IsStateOf : History → List StateEntry → Type 0
IsStateOf h entries = (key : List ℕ) → find_entry key entries ≡ entry_now key (key_now h key)

-- the same, of the keys that were seen; of the others there is nothing
abbrev pub IsStateOfSeen : History → (List ℕ → Bool) → List StateEntry → Type 0
IsStateOfSeen h seen entries = (key : List ℕ) → find_entry key entries ≡ (if seen key then entry_now key (key_now h key) else None)
