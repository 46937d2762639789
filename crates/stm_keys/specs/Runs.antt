-- Runs of revisions, and which keys they change.
use Rattle.std.specs.Prelude.{◌≡◌, ℕ, ◌+◌, ◌<◌, ◌≤◌, Bool, false, List, length}
use Rattle.std.specs.List.{list_any}
use Rattle.stm_history.specs.History.{History}
use Rattle.stm_keys.specs.declared.event.Event.{Event}
use Rattle.stm_keys.specs.declared.run.Ahead.{Ahead}
use Rattle.stm_keys.specs.declared.run.Ahead.TheVariants.{Idle, Unknown}
use Rattle.stm_keys.specs.Events.{key_of_event}
use Rattle.stm_keys.specs.Chains.{events_with}
use Rattle.stm_keys.specs.NextChange.{first_change, changes_any}

-- the revisions above a number, up to another, and keys: those that the revisions change are among them
pub record Run : Type 0 where
  pub from : ℕ
  pub upto : ℕ
  pub keys : List (List ℕ)

-- whether one of these events is about a key that passes a test
abbrev pub is_any_about : (List ℕ → Bool) → List Event → Bool
is_any_about passes events = list_any (λ e. passes (key_of_event e)) events

-- the keys of these events are among the keys: a test that none of the keys passes is passed by no event's key
abbrev pub HasKeysOf : List (List ℕ) → List Event → Type 0
HasKeysOf keys events = (passes : List ℕ → Bool) → list_any passes keys ≡ false → is_any_about passes events ≡ false

-- A run has the keys of its revisions that are kept: of those above `below`, the oldest first.
pub record SumsUp (below : ℕ) (recorded : List (List Event)) (run : Run) : Type 0 where
  pub reached : run.upto ≤ below + length recorded
  pub each : (number : ℕ) → below < number → run.from < number → number ≤ run.upto → HasKeysOf run.keys (events_with below recorded number)

-- no revision above one, up to another, has an event of a key that passes a test
pub record IsIdle (below : ℕ) (recorded : List (List Event)) (passes : List ℕ → Bool) (passed upto : ℕ) : Type 0 where
  pub later : passed < upto
  pub reached : upto ≤ below + length recorded
  pub none : (number : ℕ) → below < number → passed < number → number ≤ upto → is_any_about passes (events_with below recorded number) ≡ false

-- what is known of the revisions above one is so
abbrev pub IsAhead : ℕ → List (List Event) → (List ℕ → Bool) → ℕ → Ahead → Type 0
IsAhead below recorded passes passed (Idle upto) = IsIdle below recorded passes passed upto
IsAhead below recorded passes passed (Unknown upto) = Unit {0}

-- The same of a history: no revision above one, up to another, changes a key that passes a test.
abbrev pub IsPassed : History → (List ℕ → Bool) → ℕ → Ahead → Type 0
IsPassed h passes passed (Idle upto) = (passed < upto) × (first_change h.opening passed (changes_any passes) h.revisions
    ≡ first_change h.opening upto (changes_any passes) h.revisions)
IsPassed h passes passed (Unknown upto) = Unit {0}
