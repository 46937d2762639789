-- A state: the present keys with their values and modification revisions, ascending by the keys' bytes.
use Rattle.std.specs.Prelude.{◌≡◌, ℕ, ◌≤◌, Bool, bytes_eq, if◌then◌else◌, List, [], ◌∷◌, Option, None, Some, is_some}
use Rattle.std.specs.Ordering.{nat_cmp}
use Rattle.std.specs.Cmp.Lexicographic.{slice_cmp}
use Rattle.std.specs.declared.cmp.Ordering.{Ordering}
use Rattle.std.specs.declared.cmp.Ordering.TheVariants.{Less, Equal, Greater}
use Rattle.stm_history.specs.declared.revisions.TheConstants.{HIGHEST_NUMBER}
use Rattle.stm_steps.specs.Answer.{Answer, Lookup}
use Rattle.stm_steps.specs.declared.state.StateEntry.{StateEntry}

-- keys in the order of their bytes
abbrev pub key_order : List ℕ → List ℕ → Ordering
key_order = slice_cmp nat_cmp

-- the entry of a key
abbrev pub find_entry : List ℕ → List StateEntry → Option StateEntry
find_entry key [] = None
find_entry key (e ∷ es) = if bytes_eq e.key key then Some e else find_entry key es

abbrev pub is_present : List StateEntry → List ℕ → Bool
is_present entries key = is_some (find_entry key entries)

abbrev pub answer_of : Option StateEntry → Answer
answer_of None = record { value = []; mod_rev = 0 }
answer_of (Some e) = record { value = e.value; mod_rev = e.mod_rev }

-- A state knows every key.
abbrev pub state_answers : List StateEntry → Lookup
state_answers entries key = Some (answer_of (find_entry key entries))

-- the key is below the keys of all these entries
abbrev pub IsBelowAll : List ℕ → List StateEntry → Type 0
IsBelowAll key [] = Unit {0}
IsBelowAll key (e ∷ es) = (key_order key e.key ≡ Less) × IsBelowAll key es

-- the keys rise, so that no key stands twice
abbrev pub IsAscending : List StateEntry → Type 0
IsAscending [] = Unit {0}
IsAscending (e ∷ es) = IsBelowAll e.key es × IsAscending es

-- revisions are at most 9223372036854775807, as every number that a call answers
abbrev pub AreInRange : List StateEntry → Type 0
AreInRange [] = Unit {0}
AreInRange (e ∷ es) = (e.mod_rev ≤ HIGHEST_NUMBER) × AreInRange es

-- an entry in its place: it replaces the one of its key
abbrev pub place_by : Ordering → StateEntry → StateEntry → List StateEntry → List StateEntry → List StateEntry
place_by Less entry e es placed = e ∷ placed
place_by Equal entry e es placed = entry ∷ es
place_by Greater entry e es placed = entry ∷ e ∷ es

abbrev pub with_entry : StateEntry → List StateEntry → List StateEntry
with_entry entry [] = entry ∷ []
with_entry entry (e ∷ es) = place_by (key_order e.key entry.key) entry e es (with_entry entry es)
