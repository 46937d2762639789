-- A history of a store, and what a key is at a revision.
--
-- etcd's API reference: the store has one revision counter; each transaction that changes something gets
-- the next number, and all its changes carry it ("Revisions", and "KeyValue" in "Data model").
use Rattle.std.specs.Prelude.{◌≡◌, ℕ, ◌+◌, ◌≤◌, ◌<◌, nat_le, bytes_eq, if◌then◌else◌, List, [], ◌∷◌, length, Option, Some, None, suc}
use Rattle.stm_history.specs.declared.change.Change.{Change}
use Rattle.stm_history.specs.declared.change.Change.TheVariants.{Put, Del}
use Rattle.stm_history.specs.declared.key_state.KeyState.{KeyState}
use Rattle.stm_history.specs.declared.key_state.ReadAnswer.{ReadAnswer}
use Rattle.stm_history.specs.Opening.{Opening, opening_at, opened_state}

-- A store opens at a number. Each revision is a list of changes, in the order of operations; the newest
-- revision stands first, and their numbers follow the opening number without a gap.
pub record History : Type 0 where
  pub opening : Opening
  pub revisions : List (List Change)

-- the number of the last revision, or the opening number
abbrev pub number_of_last : Opening → List (List Change) → ℕ
number_of_last opening revisions = opening.number + length revisions

abbrev pub now : History → ℕ
now h = number_of_last h.opening h.revisions

-- the history with one more revision
abbrev pub add_revision : History → List Change → History
add_revision h changes = record { opening = h.opening; revisions = changes ∷ h.revisions }

-- the history of a store that opens at a number, without a key
abbrev pub opened_at : ℕ → History
opened_at number = record { opening = opening_at number; revisions = [] }

-- the key that a change is about
abbrev pub key_of : Change → List ℕ
key_of (Put key value lease) = key
key_of (Del key) = key

-- what a read sees of a change: the empty text of a deletion
abbrev pub value_written : Change → List ℕ
value_written (Put key value lease) = value
value_written (Del key) = []

-- the change of a key in one revision, if there is one
abbrev pub change_of : List ℕ → List Change → Option Change
change_of key [] = None
change_of key (c ∷ cs) = if bytes_eq (key_of c) key then Some c else change_of key cs

-- no change of a list is about this key
abbrev pub IsAbsentFrom : List ℕ → List Change → Type 0
IsAbsentFrom key changes = change_of key changes ≡ None

-- no two changes of a list are about one key
abbrev pub HasDistinctKeys : List Change → Type 0
HasDistinctKeys [] = Unit {0}
HasDistinctKeys (c ∷ cs) = IsAbsentFrom (key_of c) cs × HasDistinctKeys cs

-- a revision changes something, and no key twice
abbrev pub IsRevision : List Change → Type 0
IsRevision changes = (0 < length changes) × HasDistinctKeys changes

abbrev pub AreRevisions : List (List Change) → Type 0
AreRevisions [] = Unit {0}
AreRevisions (r ∷ older) = IsRevision r × AreRevisions older

-- the revisions up to a number
abbrev pub revisions_up_to : Opening → ℕ → List (List Change) → List (List Change)
revisions_up_to opening r [] = []
revisions_up_to opening r (changes ∷ older) =
    if nat_le (number_of_last opening (changes ∷ older)) r then changes ∷ older else revisions_up_to opening r older

-- a change with the number of its revision
pub record Dated : Type 0 where
  pub number : ℕ
  pub change : Change

abbrev pub with_change : ℕ → Option Change → List Dated → List Dated
with_change number None dated = dated
with_change number (Some c) dated = record { number = number; change = c } ∷ dated

-- the changes of a key, the newest first
abbrev pub changes_of : Opening → List ℕ → List (List Change) → List Dated
changes_of opening key [] = []
changes_of opening key (changes ∷ older) =
    with_change (number_of_last opening (changes ∷ older)) (change_of key changes) (changes_of opening key older)

-- a put of a key: what it wrote, and the number of its revision
pub record DatedPut : Type 0 where
  pub number : ℕ
  pub value : List ℕ
  pub lease : ℕ

-- the puts of a key since its last deletion, the newest first
abbrev pub puts_since_deletion : List Dated → List DatedPut
puts_since_deletion [] = []
puts_since_deletion (d ∷ older) = since d.number d.change (puts_since_deletion older)
  where
    since : ℕ → Change → List DatedPut → List DatedPut
    since number (Put key value lease) puts = record { number = number; value = value; lease = lease } ∷ puts
    since number (Del key) puts = []

-- What a key was before its puts since its last deletion: where it was never deleted, what it was at the opening.
abbrev pub state_before_puts : Option KeyState → List Dated → Option KeyState
state_before_puts opened [] = opened
state_before_puts opened (d ∷ older) = before d.change (state_before_puts opened older)
  where
    before : Change → Option KeyState → Option KeyState
    before (Put key value lease) s = s
    before (Del key) s = None

-- the number of the oldest of a put and those before it
abbrev pub first_number : ℕ → List DatedPut → ℕ
first_number number [] = number
first_number number (p ∷ older) = first_number p.number older

-- the create revision of a key's state, where it is absent the number of the put that makes it present
abbrev pub create_of : Option KeyState → ℕ → ℕ
create_of None number = number
create_of (Some s) number = s.create_rev

-- the version of a key's state, 0 where it is absent
abbrev pub version_of : Option KeyState → ℕ
version_of None = 0
version_of (Some s) = s.version

-- What puts make of a key that was in a state before them, or absent. Value and lease are the last put's, and the modification
-- revision is its number. A key that was absent before them has the number of the first as its create revision, and its version counts
-- the puts; one that was present keeps its create revision, and its version counts on.
abbrev pub state_after_puts : Option KeyState → List DatedPut → Option KeyState
state_after_puts before [] = before
state_after_puts before (p ∷ older) = Some record {
  value = p.value;
  create_rev = create_of before (first_number p.number older);
  mod_rev = p.number;
  version = version_of before + suc (length older);
  lease = p.lease;
}

-- what a key is after these changes of it
abbrev pub state_after : Option KeyState → List Dated → Option KeyState
state_after opened dated = state_after_puts (state_before_puts opened dated) (puts_since_deletion dated)

-- what a key is after these revisions
abbrev pub key_after : Opening → List ℕ → List (List Change) → Option KeyState
key_after opening key revisions = state_after (opened_state opening key) (changes_of opening key revisions)

-- The key at a revision. What it was below the opening is not known: there it counts as it is at the opening.
abbrev pub key_at : History → List ℕ → ℕ → Option KeyState
key_at h key r = key_after h.opening key (revisions_up_to h.opening r h.revisions)

-- the key at the last revision
abbrev pub key_now : History → List ℕ → Option KeyState
key_now h key = key_after h.opening key h.revisions

-- the state at a revision: what each key is there
abbrev pub state_at : History → ℕ → List ℕ → Option KeyState
state_at h r key = key_at h key r

-- the modification revision of a key's state, 0 where it is absent
abbrev pub mod_of : Option KeyState → ℕ
mod_of None = 0
mod_of (Some s) = s.mod_rev

-- the value of a key's state, the empty text where it is absent
abbrev pub value_of : Option KeyState → List ℕ
value_of None = []
value_of (Some s) = s.value

-- An answer is true of a history where it shows the key at a revision that the history has reached.
pub record IsTrueAnswer (h : History) (a : ReadAnswer) : Type 0 where
  pub reached : a.of_rev ≤ now h
  pub shown : key_at h a.key a.of_rev ≡ a.kv

-- What a put makes of a key: it begins anew where the key was absent, and counts on where it was present.
abbrev pub state_after_put : ℕ → List ℕ → ℕ → Option KeyState → KeyState
state_after_put number value lease None =
    record { value = value; create_rev = number; mod_rev = number; version = 1; lease = lease }
state_after_put number value lease (Some s) =
    record { value = value; create_rev = s.create_rev; mod_rev = number; version = suc s.version; lease = lease }

-- what a revision with this change of a key, or with none, makes of the key
abbrev pub after_change : ℕ → Option Change → Option KeyState → Option KeyState
after_change number None s = s
after_change number (Some c) s = changed number c s
  where
    changed : ℕ → Change → Option KeyState → Option KeyState
    changed number (Put key value lease) s = Some (state_after_put number value lease s)
    changed number (Del key) s = None
