-- What a transaction sees, and what its calls leave.
--
-- The Go package `clientv3/concurrency`, "STM": a key is fetched once; a transaction sees its own writes first; at the serializable levels all that it
-- reads is of the revision of the first read; what a failed commit read again serves the next attempt. That this serves only as an answer of the base
-- revision is our own.
use Rattle.std.specs.Prelude.{◌≡◌, ◌⊎◌, ◌≤◌, ℕ, Bool, true, ◌==◌, nat_eq, nat_lt, if◌then◌else◌, List, [], ◌∷◌, ◌++◌, Option, None, Some}
use Rattle.stm_history.specs.declared.key_state.ReadAnswer.{ReadAnswer}
use Rattle.stm_history.specs.History.{value_of, mod_of, value_written}
use Rattle.stm_program.specs.declared.level.Level.{Level}
use Rattle.stm_history.specs.declared.change.Change.{Change}
use Rattle.stm_program.specs.Levels.{is_serializable}
use Rattle.stm_program.specs.Writes.{last_write, latest_writes}
use Rattle.stm_compile.specs.Answers.{answer_in}
use Rattle.stm_attempt.specs.Fetches.{at_of}
use Rattle.stm_closures.specs.TransactionState.{TransactionState}

-- ---- answers

-- An answer to the fetch of a key at a revision, 0 for the current one: it shows the key at that revision, and carries the store's, which is not 0.
pub record IsFetched (key : List ℕ) (at : ℕ) (a : ReadAnswer) : Type 0 where
  pub key_is : a.key ≡ key
  pub shown : a.of_rev ≡ (if nat_eq at 0 then a.revision else at)
  pub carries : 1 ≤ a.revision

-- an answer that was read again serves: it is of the base revision, the one that the first read shows
abbrev pub is_serving : List ReadAnswer → ReadAnswer → Bool
is_serving [] a = nat_lt 0 a.of_rev
is_serving (first ∷ reads) a = a.of_rev == first.of_rev

abbrev pub serving_only : List ReadAnswer → Option ReadAnswer → Option ReadAnswer
serving_only reads None = None
serving_only reads (Some a) = if is_serving reads a then Some a else None

-- the answer for a key, among those that were read again, where it serves
abbrev pub served : List ReadAnswer → List ReadAnswer → List ℕ → Option ReadAnswer
served reads again key = serving_only reads (answer_in key again)

-- an answer is of the base revision, which is not 0
abbrev pub IsOfBase : List ReadAnswer → ReadAnswer → Type 0
IsOfBase [] a = 1 ≤ a.of_rev
IsOfBase (first ∷ reads) a = a.of_rev ≡ first.of_rev

-- ---- calls

-- what was read again serves at the serializable levels
abbrev pub kept_at : Level → List ReadAnswer → List ReadAnswer
kept_at level again = if is_serializable level then again else []

-- a transaction that has just begun, for which a failed commit read this again
abbrev pub begun_after : Level → List ReadAnswer → TransactionState
begun_after level again = record { level = level; reads = []; again = kept_at level again; writes = [] }

abbrev pub with_read : TransactionState → ReadAnswer → TransactionState
with_read t a = record t { reads = t.reads ++ a ∷ [] }

abbrev pub with_write : TransactionState → Change → TransactionState
with_write t w = record t { writes = latest_writes (t.writes ++ w ∷ []) }

-- what the fetch of a key by this transaction answers
abbrev pub IsFetchedBy : TransactionState → List ℕ → ReadAnswer → Type 0
IsFetchedBy t key a = IsFetched key (at_of t.level t.reads) a

abbrev pub IsAnswerOf : Option ReadAnswer → TransactionState → List ℕ → ReadAnswer → Type 0
IsAnswerOf (Some serving) t key a = a ≡ serving
IsAnswerOf None t key a = IsFetchedBy t key a

-- The answer for a key that was not read: one that was read again and serves, or else a fetched one. At a serializable level it is of the base revision.
pub record IsAnswered (t : TransactionState) (key : List ℕ) (a : ReadAnswer) : Type 0 where
  pub taken : IsAnswerOf (served t.reads t.again key) t key a
  pub key_is : a.key ≡ key
  pub of_base : is_serializable t.level ≡ true → IsOfBase t.reads a

-- a key is read: nothing changes where it was, and else its answer is recorded
abbrev pub ReadsAs : Option ReadAnswer → List ℕ → TransactionState → TransactionState → Type 0
ReadsAs (Some a) key t t' = t' ≡ t
ReadsAs None key t t' = (a : ReadAnswer) × IsAnswered t key a × (t' ≡ with_read t a)

abbrev pub HasRead : List ℕ → TransactionState → TransactionState → Type 0
HasRead key t t' = ReadsAs (answer_in key t.reads) key t t'

-- nothing changes, or a key is read
abbrev pub MayHaveRead : List ℕ → TransactionState → TransactionState → Type 0
MayHaveRead key t t' = (t' ≡ t) ⊎ HasRead key t t'

abbrev pub value_answered : Option ReadAnswer → List ℕ
value_answered None = []
value_answered (Some a) = value_of a.kv

abbrev pub mod_answered : Option ReadAnswer → ℕ
mod_answered None = 0
mod_answered (Some a) = mod_of a.kv

-- what `get` answers of a key: the last write of it, or else what is read of it
abbrev pub GetsAs : Option Change → List ℕ → TransactionState → TransactionState → List ℕ → Type 0
GetsAs (Some w) key t t' value = (value ≡ value_written w) × (t' ≡ t)
GetsAs None key t t' value = (value ≡ value_answered (answer_in key t'.reads)) × HasRead key t t'

abbrev pub HasGot : List ℕ → TransactionState → TransactionState → List ℕ → Type 0
HasGot key t t' value = GetsAs (last_write key t.writes) key t t' value

-- what `rev` answers of a key: the modification revision that is read of it, 0 where it is absent
abbrev pub HasTold : List ℕ → TransactionState → TransactionState → ℕ → Type 0
HasTold key t t' revision = (revision ≡ mod_answered (answer_in key t'.reads)) × HasRead key t t'
