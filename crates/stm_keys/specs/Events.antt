-- The events of a history: what each change shows.
--
-- etcd's API reference, "Event": a PUT carries the key's whole `KeyValue`, a DELETE the key and its revision.
use Rattle.std.specs.Prelude.{◌≡◌, ℕ, ◌==◌, Bool, true, false, bytes_eq, if◌then◌else◌, List, [], ◌∷◌, map, Option, Some, None}
use Rattle.stm_history.specs.declared.change.Change.{Change}
use Rattle.stm_history.specs.declared.change.Change.TheVariants.{Put, Del}
use Rattle.stm_history.specs.declared.key_state.KeyState.{KeyState}
use Rattle.stm_history.specs.Opening.{Opening}
use Rattle.stm_history.specs.History.{History, number_of_last, key_after, key_at, state_after_put}
use Rattle.stm_keys.specs.declared.event.Event.{Event}
use Rattle.stm_keys.specs.declared.event.Event.TheVariants.{Put as PutEvent, Delete as DeleteEvent}

-- what a change shows: a put the state that it makes of what the key was before, a deletion its revision
abbrev pub event_of : ℕ → (List ℕ → Option KeyState) → Change → Event
event_of number before (Put key value lease) = PutEvent key (state_after_put number value lease (before key))
event_of number before (Del key) = DeleteEvent key number

-- the events of a revision above these older ones, in the order of operations
abbrev pub events_above : Opening → List Change → List (List Change) → List Event
events_above opening changes older =
    map (event_of (number_of_last opening (changes ∷ older)) (λ key. key_after opening key older)) changes

-- the events of the revision with a number, none where there is no such revision
abbrev pub events_numbered : Opening → ℕ → List (List Change) → List Event
events_numbered opening number [] = []
events_numbered opening number (changes ∷ older) =
    if number_of_last opening (changes ∷ older) == number then events_above opening changes older else events_numbered opening number older

-- the events of a history's revision
abbrev pub events_of : History → ℕ → List Event
events_of h number = events_numbered h.opening number h.revisions

-- the key that an event is about
abbrev pub key_of_event : Event → List ℕ
key_of_event (PutEvent key state) = key
key_of_event (DeleteEvent key revision) = key

-- whether an event leaves its key present
abbrev pub is_put : Event → Bool
is_put (PutEvent key state) = true
is_put (DeleteEvent key revision) = false

-- the event of a key among those of one revision, if there is one
abbrev pub event_about : List ℕ → List Event → Option Event
event_about key [] = None
event_about key (e ∷ es) = if bytes_eq (key_of_event e) key then Some e else event_about key es

-- no key has two of these events
abbrev pub AreApart : List Event → Type 0
AreApart [] = Unit {0}
AreApart (e ∷ es) = (event_about (key_of_event e) es ≡ None) × AreApart es

-- what a key is after a revision with this event of it, or with none
abbrev pub after_event : Option Event → Option KeyState → Option KeyState
after_event None s = s
after_event (Some e) s = shown e
  where
    shown : Event → Option KeyState
    shown (PutEvent key state) = Some state
    shown (DeleteEvent key revision) = None

-- the change that an event shows
abbrev pub change_of_event : Event → Change
change_of_event (PutEvent key state) = Put key state.value state.lease
change_of_event (DeleteEvent key revision) = Del key

-- an event shows its key at its revision: a put the state that the key has there, a deletion that the key is absent there
abbrev pub Shows : History → ℕ → Event → Type 0
Shows h number (PutEvent key state) = key_at h key number ≡ Some state
Shows h number (DeleteEvent key revision) = (revision ≡ number) × (key_at h key number ≡ None)
