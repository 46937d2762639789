-- What a transaction comes to whose success list writes and whose failure list reads, as a commit's does.
--
-- etcd's API reference, "Transaction": where all compares hold the success list runs, else the failure list, and all
-- changes carry one revision. What stands here is no second definition: it is what the outcome is, by the laws.
use Rattle.std.specs.Prelude.{◌≡◌, ℕ, ◌<◌, ◌≤◌, Bool, false, ◌||◌, nat_eq, not, if◌then◌else◌, List, [], ◌∷◌, length, map, filter, Option, Some, None, is_none}
use Rattle.std.specs.Prelude.{Result, Err}
use Rattle.std.specs.List.{list_any}
use Rattle.stm_history.specs.declared.change.Change.{Change}
use Rattle.stm_history.specs.declared.change.Change.TheVariants.{Put as PutChange, Del as DelChange}
use Rattle.stm_history.specs.declared.key_state.KeyState.{KeyState}
use Rattle.stm_history.specs.History.{History, now, key_now, key_at}
use Rattle.stm_outcome.specs.declared.txn.Op.{Op}
use Rattle.stm_outcome.specs.declared.txn.Op.TheVariants.{Get}
use Rattle.stm_outcome.specs.declared.txn.Compare.{Compare}
use Rattle.stm_outcome.specs.declared.txn.Target.TheVariants.{Mod}
use Rattle.stm_outcome.specs.declared.txn.Order.TheVariants.{Equal, Less}
use Rattle.stm_outcome.specs.declared.answer.OpAnswer.{OpAnswer}
use Rattle.stm_outcome.specs.declared.answer.OpAnswer.TheVariants.{Get as GetAnswer, Put as PutAnswer, Del as DelAnswer}
use Rattle.stm_outcome.specs.declared.answer.FailedCompare.{FailedCompare}
use Rattle.stm_outcome.specs.declared.refusal.Refusal.{Refusal}
use Rattle.stm_outcome.specs.declared.refusal.Refusal.TheVariants.{LeaseNotFound}
use Rattle.stm_outcome.specs.Terms.{Terms, is_below_floor}
use Rattle.stm_outcome.specs.Branches.{deletion_of, count_of}
use Rattle.stm_outcome.specs.Effect.{changes_something}
use Rattle.stm_outcome.specs.Outcome.{Done, finished}

-- "the key was last modified by this revision", 0 for an absent key
abbrev pub mod_is : List ℕ → ℕ → Compare
mod_is key number = record { key = key; target = Mod number; order = Equal }

-- "the key was last modified below this revision"
abbrev pub mod_is_below : List ℕ → ℕ → Compare
mod_is_below key number = record { key = key; target = Mod number; order = Less }

-- a put names a lease that is not live
abbrev pub is_on_dead_lease : (ℕ → Bool) → Change → Bool
is_on_dead_lease is_live (PutChange key value lease) = not (nat_eq lease 0 || is_live lease)
is_on_dead_lease is_live (DelChange key) = false

-- the answer to a write
abbrev pub write_answer : (List ℕ → Option KeyState) → Change → OpAnswer
write_answer state (PutChange key value lease) = PutAnswer
write_answer state (DelChange key) = DelAnswer (count_of (deletion_of key (state key)))

-- the writes that change something: all but the deletes of absent keys
abbrev pub effective : History → List Change → List Change
effective h writes = filter (changes_something (key_now h)) writes

-- Writes of distinct keys, all compares holding: LeaseNotFound where a put names a lease that is not live, else
-- RevisionsUsedUp where something changes at the highest revision, else those that change something as one revision.
abbrev pub applied : Terms → List Change → Result Done Refusal
applied terms writes =
    let h : History = terms.history in
    if list_any (is_on_dead_lease terms.is_live) writes then Err LeaseNotFound
    else finished h None (effective h writes) (map (write_answer (key_now h)) writes)

-- a read at a revision, 0 for the current one
pub record Read : Type 0 where
  pub key : List ℕ
  pub rev : ℕ

abbrev pub read_op : Read → Op
read_op read = Get read.key read.rev

-- the read of a key as it is now
abbrev pub read_now : List ℕ → Op
read_now key = Get key 0

-- no read names a revision above the counter or below the floor
abbrev pub AreReached : Terms → List Read → Type 0
AreReached terms [] = Unit {0}
AreReached terms (read ∷ reads) = (read.rev ≤ now terms.history) × (is_below_floor terms.floor read.rev ≡ false) × AreReached terms reads

-- none of these keys is empty
abbrev pub AreNamed : List (List ℕ) → Type 0
AreNamed [] = Unit {0}
AreNamed (key ∷ keys) = (0 < length key) × AreNamed keys

-- the revision that a read names
abbrev pub revision_read : History → ℕ → ℕ
revision_read h rev = if nat_eq rev 0 then now h else rev

-- what a read shows where nothing was changed before it: the key at its revision
abbrev pub shown : History → Read → OpAnswer
shown h read = GetAnswer record {
  key = read.key;
  kv = key_at h read.key (revision_read h read.rev);
  of_rev = revision_read h read.rev;
  revision = now h;
}

-- reads alone: each key at its revision, and nothing changes
abbrev pub read_out : History → Option FailedCompare → List Read → Done
read_out h failed reads =
    record { answer = record { succeeded = is_none failed; revision = now h; answers = map (shown h) reads; failed = failed }; history = h }

-- a read of each of these keys as it is now
abbrev pub reads_now : List (List ℕ) → List Read
reads_now keys = map (λ key. record { key = key; rev = 0 }) keys

-- a compare failed: it is reported, with what the keys are now, and nothing changes
abbrev pub turned_down : History → FailedCompare → List (List ℕ) → Done
turned_down h failed keys = read_out h (Some failed) (reads_now keys)
