-- What a key store is: a history, and the list of the keys that are present.
use Rattle.std.specs.Prelude.{◌≡◌, ℕ, ◌+◌, ◌-◌, ◌≤◌, bytes_eq, List, [], ◌∷◌, length, map, Option, IsSome, nat_eq, if◌then◌else◌}
use Rattle.std.specs.List.{IsDistinct}
use Rattle.std.specs.Map.{lookup, keys_of}
use Rattle.stm_history.specs.declared.change.Change.{Change}
use Rattle.stm_history.specs.declared.change.Change.TheVariants.{Put, Del}
use Rattle.stm_history.specs.declared.key_state.KeyState.{KeyState}
use Rattle.stm_history.specs.declared.revisions.TheConstants.{HIGHEST_REVISION, HIGHEST_NUMBER}
use Rattle.stm_history.specs.Opening.{Opening}
use Rattle.stm_history.specs.Cut.{cut}
use Rattle.stm_history.specs.History.{History, key_at, key_now, AreRevisions}
use Rattle.stm_keys.specs.declared.event.Event.{Event}
use Rattle.stm_keys.specs.Events.{events_above, change_of_event, event_about, after_event}
use Rattle.stm_keys.specs.Chains.{Chain, versions_in, versions_of}

-- What contracts see of a key store: the history that it keeps, its present keys, the revision that it had before any change, and the
-- lowest one that can be read.
pub record Contents : Type 0 where
  pub history : History
  pub present : List (List ℕ × KeyState)
  pub opened : ℕ
  pub floor : ℕ

-- the contents with a floor
abbrev pub with_floor : ℕ → Contents → Contents
with_floor floor c = record { history = c.history; present = c.present; opened = c.opened; floor = floor }

-- the contents without the revisions up to a number
abbrev pub without_up_to : ℕ → Contents → Contents
without_up_to number c = record { history = cut number c.history; present = c.present; opened = c.opened; floor = c.floor }

-- The contents once they are compacted at a revision: it is the floor, and the revisions below it are dropped.
abbrev pub compacted_at : ℕ → Contents → Contents
compacted_at revision c = without_up_to (revision - 1) (with_floor revision c)

-- the list has each present key once, with its state, and no other key
pub record ListsPresent (h : History) (present : List (List ℕ × KeyState)) : Type 0 where
  pub states : (key : List ℕ) → lookup (bytes_eq key) present ≡ key_now h key
  pub once : IsDistinct bytes_eq (keys_of present)

-- the key that a read at a revision shows: 0 names the last one
abbrev pub key_read : History → List ℕ → ℕ → Option KeyState
key_read h key revision = if nat_eq revision 0 then key_now h key else key_at h key revision

-- each deletion among these changes is of a key that is present
abbrev pub DeletePresent : History → List Change → Type 0
DeletePresent h [] = Unit {0}
DeletePresent h (Put key value lease ∷ changes) = DeletePresent h changes
DeletePresent h (Del key ∷ changes) = IsSome (key_now h key) × DeletePresent h changes

-- the numbers that the store gave a state
pub record HasSmallNumbers (s : KeyState) : Type 0 where
  pub version : s.version ≤ HIGHEST_NUMBER
  pub mod_rev : s.mod_rev ≤ HIGHEST_NUMBER
  pub create_rev : s.create_rev ≤ HIGHEST_NUMBER

-- the changes of recorded revisions
abbrev pub changes_of : List (List Event) → List (List Change)
changes_of recorded = map (map change_of_event) recorded

-- the events of each revision, the newest first
abbrev pub all_events : Opening → List (List Change) → List (List Event)
all_events opening [] = []
all_events opening (changes ∷ older) = events_above opening changes older ∷ all_events opening older

-- what a walk back over recorded revisions finds of a key that was in a state before them, or absent
abbrev pub state_recorded : Option KeyState → List ℕ → List (List Event) → Option KeyState
state_recorded before key [] = before
state_recorded before key (events ∷ older) = after_event (event_about key events) (state_recorded before key older)

-- What a key store keeps true of its fields, the recorded revisions being the newest first: the counter is at least 1 and
-- fits, each revision changes something and no key twice, each recorded event is what its change shows, and the chain of each key has what
-- the key was at the opening, and the numbers of the revisions that changed it.
pub record IsKept (opening : Opening) (recorded : List (List Event)) (chains : List ℕ → Option Chain) : Type 0 where
  pub positive : 1 ≤ opening.number
  pub bounded : opening.number + length recorded ≤ HIGHEST_REVISION
  pub shaped : AreRevisions (changes_of recorded)
  pub events : recorded ≡ all_events opening (changes_of recorded)
  pub versions : (key : List ℕ) → versions_in (chains key) ≡ versions_of opening key recorded
