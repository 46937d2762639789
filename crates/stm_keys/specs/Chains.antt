-- The version chains: what a key was before the revisions that are kept, which of these changed it, and what it is at them.
use Rattle.std.specs.Prelude.{◌≡◌, ℕ, ◌+◌, ◌-◌, nat_lt, List, [], ◌∷◌, length, Bool, true, false, Option, Some, None, is_some, IfSome, ◌<◌, ◌≤◌, reverse, suc}
use Rattle.std.specs.Prelude.{if◌then◌else◌, get_or, map, slice_get, string_bytes}
use Rattle.std.specs.Option.{option_or}
use Rattle.std.specs.HashMap.{HashMap}
use Rattle.std.specs.Map.{keys_of}
use Rattle.std.specs.declared.string.String.{String}
use Rattle.std.specs.List.Sorted.{IsNonDecreasing}
use Rattle.indexmap.specs.IndexMap.{get_by_text}
use Rattle.stm_history.specs.declared.key_state.KeyState.{KeyState}
use Rattle.stm_history.specs.Opening.{Opening, opened_state}
use Rattle.stm_history.specs.Cut.{states_of}
use Rattle.stm_keys.specs.declared.event.Event.{Event}
use Rattle.stm_keys.specs.declared.chain.Version.{Version}
use Rattle.stm_keys.specs.Events.{event_about, after_event, is_put, AreApart}

-- what a key was before the revisions that are kept, and the numbers of those that changed it, the newest first
pub record Versions : Type 0 where
  pub before : Option KeyState
  pub numbers : List ℕ

-- those of a key that has no chain
abbrev pub no_versions : Versions
no_versions = record { before = None; numbers = [] }

-- a chain has the versions of its key, and room for `room` more
pub record Chain : Type 0 where
  pub versions : Versions
  pub room : ℕ

-- the number of a version; where its event is looked for first is no part of what it stands for
abbrev pub number_of : Version → ℕ
number_of v = v.number

-- what a look-up of a key's chain finds
abbrev pub versions_in : Option Chain → Versions
versions_in None = no_versions
versions_in (Some chain) = chain.versions

abbrev pub room_in : Option Chain → ℕ
room_in None = 0
room_in (Some chain) = chain.room

-- one more version, where the revision with this number is one of the key's
abbrev pub with_version : Bool → ℕ → Versions → Versions
with_version false number versions = versions
with_version true number versions = record { before = versions.before; numbers = number ∷ versions.numbers }

-- numbers without the oldest
abbrev pub without_oldest : List ℕ → List ℕ
without_oldest [] = []
without_oldest (number ∷ []) = []
without_oldest (number ∷ (next ∷ older)) = number ∷ without_oldest (next ∷ older)

-- The versions of a key once its oldest event, if it is of the revision that is forgotten, is forgotten: what it left is what the key was before.
abbrev pub forgotten : Option Event → Versions → Versions
forgotten None versions = versions
forgotten (Some e) versions = record { before = after_event (Some e) None; numbers = without_oldest versions.numbers }

-- the versions of a key in a store that opened so, of revisions with the newest first
abbrev pub versions_of : Opening → List ℕ → List (List Event) → Versions
versions_of opening key [] = record { before = opened_state opening key; numbers = [] }
versions_of opening key (events ∷ older) =
    with_version (is_some (event_about key events)) (opening.number + suc (length older)) (versions_of opening key older)

-- the newest number below a bound
abbrev pub newest_below : ℕ → List ℕ → Option ℕ
newest_below bound [] = None
newest_below bound (number ∷ older) = if nat_lt number bound then Some number else newest_below bound older

-- the oldest number that is not below a bound
abbrev pub oldest_from : ℕ → List ℕ → Option ℕ
oldest_from bound [] = None
oldest_from bound (number ∷ older) = option_or (oldest_from bound older) (if nat_lt number bound then None else Some number)

-- the events of the revision with a number, of revisions above another; the oldest stands first
abbrev pub events_with : ℕ → List (List Event) → ℕ → List Event
events_with below recorded number = get_or recorded (number - below - 1) []

-- the event of a key in the revision with a number, which changed it
abbrev pub event_from : ℕ → List (List Event) → List ℕ → Option ℕ → Option Event
event_from below recorded key None = None
event_from below recorded key (Some number) = event_about key (events_with below recorded number)

-- the newest event of a key, by its chain
abbrev pub newest_event : ℕ → List (List Event) → List ℕ → Versions → Option Event
newest_event below recorded key versions = event_from below recorded key (slice_get versions.numbers 0)

-- what a key is after the revision with a number, which changed it, and without one what it was before
abbrev pub state_from : ℕ → List (List Event) → List ℕ → Option KeyState → Option ℕ → Option KeyState
state_from below recorded key before number = after_event (event_from below recorded key number) before

-- what a key is after the revisions below a bound, by its chain
abbrev pub found_below : ℕ → List (List Event) → List ℕ → ℕ → Versions → Option KeyState
found_below below recorded key bound versions = state_from below recorded key versions.before (newest_below bound versions.numbers)

-- what a key is after all revisions, by its chain
abbrev pub found_now : ℕ → List (List Event) → List ℕ → Versions → Option KeyState
found_now below recorded key versions = state_from below recorded key versions.before (slice_get versions.numbers 0)

-- a number is that of one of `count` revisions above `below`
abbrev pub IsKeptNumber : ℕ → ℕ → ℕ → Type 0
IsKeptNumber below count number = (below < number) × (number ≤ below + count)

-- chains that can be searched: their numbers rise, each is that of a revision, and no two events of a revision are about one key
pub record AreSearchable (chains : List ℕ → Option Chain) (below : ℕ) (recorded : List (List Event)) : Type 0 where
  pub rising : (key : List ℕ) → IsNonDecreasing (reverse (versions_in (chains key)).numbers)
  pub within : (key : List ℕ) (bound : ℕ) → IfSome (newest_below bound (versions_in (chains key)).numbers) (IsKeptNumber below (length recorded))
  pub newest : (key : List ℕ) → IfSome (slice_get (versions_in (chains key)).numbers 0) (IsKeptNumber below (length recorded))
  pub apart : (place : ℕ) → place < length recorded → AreApart (get_or recorded place [])

-- the keys with a chain that are present, each with its state
abbrev pub with_state : List ℕ → Option KeyState → List (List ℕ × KeyState) → List (List ℕ × KeyState)
with_state key None present = present
with_state key (Some state) present = (key, state) ∷ present

abbrev pub present_among : (List ℕ → Option KeyState) → List (List ℕ) → List (List ℕ × KeyState)
present_among state [] = []
present_among state (key ∷ keys) = with_state key (state key) (present_among state keys)

-- The present keys are the first `count`: a key stands below the count exactly where it is present.
pub record StandFirst (present : List ℕ → Bool) (count : ℕ) (keys : List (List ℕ)) : Type 0 where
  pub within : count ≤ length keys
  pub each : (place : ℕ) (key : List ℕ) → slice_get keys place ≡ Some key → present key ≡ nat_lt place count

-- Keys come that have no version: the present keys stay as they are, and stand first as they did.
pub record KeepsPresent (versions_at : List ℕ → Versions) (old new : List (List ℕ)) : Type 0 where
  pub listed : (state : List ℕ → Option KeyState) → ((key : List ℕ) → versions_at key ≡ no_versions → state key ≡ None)
      → present_among state new ≡ present_among state old
  pub first : (present : List ℕ → Bool) (count : ℕ) → ((key : List ℕ) → versions_at key ≡ no_versions → present key ≡ false)
      → StandFirst present count old → StandFirst present count new
  pub longer : length old ≤ length new

-- Keys go that have no version: the present keys stay as they are, and stand first as they did.
abbrev pub DropsAbsent : (List ℕ → Versions) → List (List ℕ) → List (List ℕ) → Type 0
DropsAbsent versions_at old new =
    (state : List ℕ → Option KeyState) (count : ℕ) → ((key : List ℕ) → versions_at key ≡ no_versions → state key ≡ None) →
    StandFirst (λ key. is_some (state key)) count old →
    StandFirst (λ key. is_some (state key)) count new × (present_among state new ≡ present_among state old)

-- whether a revision with this event of a key, or with none, leaves the key present
abbrev pub is_left : Option Event → Bool → Bool
is_left None before = before
is_left (Some e) before = is_put e

-- the keys of a map
abbrev pub names_of : {Y X S : Type 0} → HashMap (String Y) X S → List (List ℕ)
names_of m = map string_bytes (keys_of m.entries)

-- what a store with these chains opens with
abbrev pub opening_of : {Y S : Type 0} → ℕ → HashMap (String Y) Chain S → Opening
opening_of below chains =
    record { number = below; states = states_of (λ key. (versions_in (get_by_text chains key)).before) (names_of chains) }
