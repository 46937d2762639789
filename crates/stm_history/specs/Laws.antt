-- The laws of histories, each carried by a function of `src/laws.rt`.
use Rattle.std.specs.Prelude.{◌≡◌, ℕ, ◌≤◌, List, IfSome, max}
use Rattle.stm_history.specs.declared.change.Change.{Change}
use Rattle.stm_history.specs.declared.key_state.KeyState.{KeyState}
use Rattle.stm_history.specs.History.{History, now, add_revision, key_at, key_now, mod_of, change_of, after_change, AreRevisions}
use Rattle.stm_history.specs.Cut.{cut}

-- Equal modification revisions of one key, at any two revisions, mean the same state (0: absent).
abbrev pub SameModMeansSameState : Type 0
SameModMeansSameState =
    (h : History) (key : List ℕ) (r s : ℕ) → mod_of (key_at h key r) ≡ mod_of (key_at h key s) → key_at h key r ≡ key_at h key s

-- One more revision changes nothing at the revisions before it.
abbrev pub OlderRevisionsStay : Type 0
OlderRevisionsStay =
    (h : History) (changes : List Change) (key : List ℕ) (r : ℕ) → r ≤ now h → key_at (add_revision h changes) key r ≡ key_at h key r

-- One more revision changes each key by its change, if it has one.
abbrev pub OneMoreRevision : Type 0
OneMoreRevision =
    (h : History) (changes : List Change) (key : List ℕ) →
    key_now (add_revision h changes) key ≡ after_change (now (add_revision h changes)) (change_of key changes) (key_now h key)

-- From the last revision on a key is what it is now.
abbrev pub LastRevisionIsNow : Type 0
LastRevisionIsNow = (h : History) (key : List ℕ) (r : ℕ) → now h ≤ r → key_at h key r ≡ key_now h key

-- the numbers of a present key's state are from 1 to the last revision, in their order
abbrev pub AreSmallIn : History → KeyState → Type 0
AreSmallIn h s = (s.version ≤ now h) × (s.mod_rev ≤ now h) × (s.create_rev ≤ s.mod_rev) × (1 ≤ s.create_rev)

-- A present key's version is at most the last revision, and so are its revisions.
abbrev pub NumbersStaySmall : Type 0
NumbersStaySmall = (h : History) (key : List ℕ) (r : ℕ) → IfSome (key_at h key r) (AreSmallIn h)

-- ---- histories without their oldest revisions

-- A history that was cut shows each key at each revision from the cut on as it was.
abbrev pub CutShowsTheSame : Type 0
CutShowsTheSame =
    (h : History) (number : ℕ) → number ≤ now h → (key : List ℕ) (r : ℕ) → number ≤ r → key_at (cut number h) key r ≡ key_at h key r

-- So it does now,
abbrev pub CutKeepsKeysNow : Type 0
CutKeepsKeysNow = (h : History) (number : ℕ) → number ≤ now h → (key : List ℕ) → key_now (cut number h) key ≡ key_now h key

-- and its last revision is what it was.
abbrev pub CutKeepsNow : Type 0
CutKeepsNow = (h : History) (number : ℕ) → number ≤ now h → now (cut number h) ≡ now h

-- What is left are revisions.
abbrev pub CutKeepsRevisions : Type 0
CutKeepsRevisions = (h : History) (number : ℕ) → AreRevisions h.revisions → AreRevisions (cut number h).revisions

-- It goes on as it would have.
abbrev pub CutGoesOn : Type 0
CutGoesOn =
    (h : History) (number : ℕ) (changes : List Change) → number ≤ now h → cut number (add_revision h changes) ≡ add_revision (cut number h) changes

-- At its opening and below nothing is cut off.
abbrev pub CutAtTheOpening : Type 0
CutAtTheOpening = (h : History) (number : ℕ) → number ≤ h.opening.number → cut number h ≡ h

-- To cut twice is to cut at the higher number.
abbrev pub CutTwice : Type 0
CutTwice = (h : History) (first second : ℕ) → first ≤ now h → second ≤ now h → cut second (cut first h) ≡ cut (max first second) h
