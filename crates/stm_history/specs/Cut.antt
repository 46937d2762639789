-- A history without its oldest revisions.
use Rattle.std.specs.Prelude.{ℕ, nat_lt, if◌then◌else◌, List, [], ◌∷◌, ◌++◌, map, Option, Some, None}
use Rattle.std.specs.Ordering.{nat_cmp}
use Rattle.std.specs.Cmp.Lexicographic.{slice_cmp}
use Rattle.std.specs.FinMap.{put}
use Rattle.stm_history.specs.declared.change.Change.{Change}
use Rattle.stm_history.specs.declared.key_state.KeyState.{KeyState}
use Rattle.stm_history.specs.Opening.{Opening, States}
use Rattle.stm_history.specs.History.{History, number_of_last, key_of, key_at}

-- states with that of one more key, where it is present
abbrev pub with_present : List ℕ → Option KeyState → States → States
with_present key None states = states
with_present key (Some s) states = put (slice_cmp nat_cmp) key s states

-- the states of those of these keys that are present, ascending by the keys' bytes
abbrev pub states_of : (List ℕ → Option KeyState) → List (List ℕ) → States
states_of state [] = []
states_of state (key ∷ keys) = with_present key (state key) (states_of state keys)

-- the keys that revisions change, before others
abbrev pub changed_before : List (List Change) → List (List ℕ) → List (List ℕ)
changed_before [] keys = keys
changed_before (changes ∷ older) keys = map key_of changes ++ changed_before older keys

-- the keys that a history names: each that its revisions change, and each that has a state at its opening
abbrev pub keys_named : History → List (List ℕ)
keys_named h = changed_before h.revisions (map (λ (e : List ℕ × KeyState). e.0) h.opening.states)

-- what each present key is at a revision
abbrev pub states_at : History → ℕ → States
states_at h r = states_of (λ key. key_at h key r) (keys_named h)

-- the revisions above a number
abbrev pub revisions_above : Opening → ℕ → List (List Change) → List (List Change)
revisions_above opening number [] = []
revisions_above opening number (changes ∷ older) =
    if nat_lt number (number_of_last opening (changes ∷ older)) then changes ∷ revisions_above opening number older else []

-- what a history opens with once the revisions up to a number are dropped
abbrev pub opening_of_cut : ℕ → History → Opening
opening_of_cut number h = record { number = number; states = states_at h number }

-- The history without its revisions up to a number: it opens there, with what each key is there. One that opens there or above drops
-- nothing.
abbrev pub cut : ℕ → History → History
cut number h =
    if nat_lt h.opening.number number
    then record { opening = opening_of_cut number h; revisions = revisions_above h.opening number h.revisions }
    else h
