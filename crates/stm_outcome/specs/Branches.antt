-- What a branch answers and changes: a fold over a state and a list of changes.
--
-- etcd's API reference, "Transaction": the operations run in order, each sees what those before it did, and all changes
-- carry one revision, the next one; and "Range": a read that names a revision shows that revision, and one above the
-- store's, or below the compacted one, is refused. This store's own choices are the revision that each answer carries, that a read of a named revision
-- is judged by the counter before the transaction and shows none of the branch's changes, that a second deletion of a key
-- deletes nothing, and that the first refusal along the branch decides, whichever it is.
use Rattle.std.specs.Prelude.{ℕ, ◌+◌, Bool, true, false, ◌||◌, ◌&&◌, bytes_eq, nat_eq, nat_lt, nat_le, if◌then◌else◌, List, [], ◌∷◌, ◌++◌, Option, Some, None}
use Rattle.std.specs.Option.{option_or}
use Rattle.stm_history.specs.declared.change.Change.{Change}
use Rattle.stm_history.specs.declared.change.Change.TheVariants.{Put as PutChange, Del as DelChange}
use Rattle.stm_history.specs.declared.key_state.KeyState.{KeyState}
use Rattle.stm_history.specs.declared.key_state.ReadAnswer.{ReadAnswer}
use Rattle.stm_history.specs.History.{History, now, key_now, key_at, key_of, after_change}
use Rattle.stm_outcome.specs.declared.txn.Op.{Op}
use Rattle.stm_outcome.specs.declared.txn.Op.TheVariants.{Get, Put, Del}
use Rattle.stm_outcome.specs.declared.answer.OpAnswer.{OpAnswer}
use Rattle.stm_outcome.specs.declared.answer.OpAnswer.TheVariants.{Get as GetAnswer, Put as PutAnswer, Del as DelAnswer}
use Rattle.stm_outcome.specs.declared.refusal.Refusal.{Refusal}
use Rattle.stm_outcome.specs.declared.refusal.Refusal.TheVariants.{FutureRevision, Compacted, LeaseNotFound}
use Rattle.stm_outcome.specs.Terms.{Terms, is_below_floor}

-- a branch in progress: what each key is by now, and the changes so far
pub record Progress : Type 0 where
  pub state : List ℕ → Option KeyState
  pub changes : List Change

-- a branch that has done nothing yet
abbrev pub begun : History → Progress
begun h = record { state = key_now h; changes = [] }

-- one more change, as part of the next revision
abbrev pub with_change : History → Progress → Change → Progress
with_change h p c = record {
  state = λ key. if bytes_eq (key_of c) key then after_change (now h + 1) (Some c) (p.state key) else p.state key;
  changes = p.changes ++ c ∷ [];
}

-- the revision that an answer carries: the store's, plus one where the branch has changed something before
abbrev pub carried : History → List Change → ℕ
carried h [] = now h
carried h (c ∷ cs) = now h + 1

-- what a read answers: revision 0 names the state by now, another one the past
abbrev pub read_answer : History → Progress → List ℕ → ℕ → ReadAnswer
read_answer h p key rev =
    if nat_eq rev 0
    then record { key = key; kv = p.state key; of_rev = carried h p.changes; revision = carried h p.changes }
    else record { key = key; kv = key_at h key rev; of_rev = rev; revision = carried h p.changes }

-- the deletion of a key, where it is present
abbrev pub deletion_of : List ℕ → Option KeyState → Option Change
deletion_of key None = None
deletion_of key (Some s) = Some (DelChange key)

-- the change that an operation makes, if it makes one: a deletion makes none where the key is absent by now
abbrev pub change_made : Progress → Op → Option Change
change_made p (Get key rev) = None
change_made p (Put key value lease) = Some (PutChange key value lease)
change_made p (Del key) = deletion_of key (p.state key)

abbrev pub with_change_made : History → Progress → Option Change → Progress
with_change_made h p None = p
with_change_made h p (Some c) = with_change h p c

-- how many keys a deletion deleted
abbrev pub count_of : Option Change → ℕ
count_of None = 0
count_of (Some c) = 1

-- what an operation answers
abbrev pub op_answer : History → Progress → Op → OpAnswer
op_answer h p (Get key rev) = GetAnswer (read_answer h p key rev)
op_answer h p (Put key value lease) = PutAnswer
op_answer h p (Del key) = DelAnswer (count_of (change_made p (Del key)))

-- the branch after these operations
abbrev pub progress_after : History → Progress → List Op → Progress
progress_after h p [] = p
progress_after h p (op ∷ ops) = progress_after h (with_change_made h p (change_made p op)) ops

-- what these operations answer
abbrev pub answers_after : History → Progress → List Op → List OpAnswer
answers_after h p [] = []
answers_after h p (op ∷ ops) = op_answer h p op ∷ answers_after h (with_change_made h p (change_made p op)) ops

-- what a branch changes
abbrev pub changes_of_branch : History → List Op → List Change
changes_of_branch h ops = (progress_after h (begun h) ops).changes

-- why a read of a revision is refused: it is above the counter, which is that before the transaction, or below the floor
abbrev pub read_refusal : ℕ → ℕ → ℕ → Option Refusal
read_refusal counter floor rev =
    if nat_lt counter rev then Some FutureRevision else (
    if is_below_floor floor rev then Some Compacted else None)

-- why an operation is refused: a revision that can't be read, or a lease that is not live
abbrev pub op_refusal : Terms → Op → Option Refusal
op_refusal terms (Get key rev) = read_refusal (now terms.history) terms.floor rev
op_refusal terms (Put key value lease) = if nat_eq lease 0 || terms.is_live lease then None else Some LeaseNotFound
op_refusal terms (Del key) = None

-- a branch that changed something
abbrev pub has_changes : List Change → Bool
has_changes [] = false
has_changes (c ∷ cs) = true

-- a read names a revision that the store has reached
abbrev pub is_readable : ℕ → Op → Bool
is_readable counter (Get key rev) = nat_le rev counter
is_readable counter (Put key value lease) = true
is_readable counter (Del key) = true

abbrev pub are_readable : ℕ → List Op → Bool
are_readable counter [] = true
are_readable counter (op ∷ ops) = is_readable counter op && are_readable counter ops

-- the first refusal along a branch
abbrev pub branch_refusal : Terms → List Op → Option Refusal
branch_refusal terms [] = None
branch_refusal terms (op ∷ ops) = option_or (op_refusal terms op) (branch_refusal terms ops)
