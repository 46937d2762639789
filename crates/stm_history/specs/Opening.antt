-- What a store opens with: a number, and what each key is there.
use Rattle.std.specs.Prelude.{ℕ, Bool, ◌&&◌, nat_le, if◌then◌else◌, List, [], Option, Some, None}
use Rattle.std.specs.Ordering.{nat_cmp}
use Rattle.std.specs.Cmp.Lexicographic.{slice_cmp}
use Rattle.std.specs.FinMap.{find}
use Rattle.stm_history.specs.declared.key_state.KeyState.{KeyState}

-- the states of present keys, ascending by the keys' bytes
abbrev pub States : Type 0
States = List (List ℕ × KeyState)

-- A store opens at a number. A new one has no key there; one that dropped its oldest revisions opens with what each key was
-- after them.
pub record Opening : Type 0 where
  pub number : ℕ
  pub states : States

-- the opening of a store that has no key yet
abbrev pub opening_at : ℕ → Opening
opening_at number = record { number = number; states = [] }

-- whether a key can be in this state in a history that has reached a number: its revisions and its version are from 1 to the number
abbrev pub is_reached : ℕ → KeyState → Bool
is_reached number s =
    nat_le 1 s.create_rev && (nat_le s.create_rev s.mod_rev && (nat_le s.mod_rev number && (nat_le 1 s.version && nat_le s.version number)))

abbrev pub if_reached : ℕ → Option KeyState → Option KeyState
if_reached number None = None
if_reached number (Some s) = if is_reached number s then Some s else None

-- What a key is at the opening. A state that no history up to the opening can have left is no state of a key.
abbrev pub opened_state : Opening → List ℕ → Option KeyState
opened_state opening key = if_reached opening.number (find (slice_cmp nat_cmp) key opening.states)
