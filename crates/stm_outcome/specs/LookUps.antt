-- A branch as `stm_txn` runs it: what a key is by now is looked up in the changes so far. Where no two operations clash that
-- is the branch's state, by a law. No public clause cites this module.
use Rattle.std.specs.Prelude.{ℕ, ◌+◌, nat_eq, if◌then◌else◌, List, [], ◌∷◌, ◌++◌, Option, Some, None, Result}
use Rattle.stm_history.specs.declared.change.Change.{Change}
use Rattle.stm_history.specs.declared.change.Change.TheVariants.{Put as PutChange}
use Rattle.stm_history.specs.declared.key_state.KeyState.{KeyState}
use Rattle.stm_history.specs.declared.key_state.ReadAnswer.{ReadAnswer}
use Rattle.stm_history.specs.History.{History, now, key_now, key_at, change_of, after_change}
use Rattle.stm_outcome.specs.declared.txn.Op.{Op}
use Rattle.stm_outcome.specs.declared.txn.Op.TheVariants.{Get, Put, Del}
use Rattle.stm_outcome.specs.declared.answer.OpAnswer.{OpAnswer}
use Rattle.stm_outcome.specs.declared.answer.OpAnswer.TheVariants.{Get as GetAnswer, Put as PutAnswer, Del as DelAnswer}
use Rattle.stm_outcome.specs.declared.answer.FailedCompare.{FailedCompare}
use Rattle.stm_outcome.specs.declared.refusal.Refusal.{Refusal}
use Rattle.stm_outcome.specs.Terms.{Terms}
use Rattle.stm_outcome.specs.Branches.{carried, deletion_of, count_of, branch_refusal}
use Rattle.stm_outcome.specs.Outcome.{Done, unless, finished}

-- what a key is once the changes so far are made, as the next revision
abbrev pub copy : History → List Change → List ℕ → Option KeyState
copy h changes key = after_change (now h + 1) (change_of key changes) (key_now h key)

-- what a read answers: revision 0 names the copy, another one the past
abbrev pub read_copied : History → List Change → List ℕ → ℕ → ReadAnswer
read_copied h changes key rev =
    if nat_eq rev 0
    then record { key = key; kv = copy h changes key; of_rev = carried h changes; revision = carried h changes }
    else record { key = key; kv = key_at h key rev; of_rev = rev; revision = carried h changes }

-- the change that an operation makes, if it makes one: a deletion makes none where the copy has no such key
abbrev pub change_copied : History → List Change → Op → Option Change
change_copied h changes (Get key rev) = None
change_copied h changes (Put key value lease) = Some (PutChange key value lease)
change_copied h changes (Del key) = deletion_of key (copy h changes key)

abbrev pub with_copied : List Change → Option Change → List Change
with_copied changes None = changes
with_copied changes (Some c) = changes ++ c ∷ []

-- what an operation answers
abbrev pub answer_copied : History → List Change → Op → OpAnswer
answer_copied h changes (Get key rev) = GetAnswer (read_copied h changes key rev)
answer_copied h changes (Put key value lease) = PutAnswer
answer_copied h changes (Del key) = DelAnswer (count_of (change_copied h changes (Del key)))

-- the changes after the operations of a branch, on top of those so far
abbrev pub changes_copied : History → List Change → List Op → List Change
changes_copied h changes [] = changes
changes_copied h changes (op ∷ ops) = changes_copied h (with_copied changes (change_copied h changes op)) ops

-- the answers of the operations of a branch, on top of the changes so far
abbrev pub answers_copied : History → List Change → List Op → List OpAnswer
answers_copied h changes [] = []
answers_copied h changes (op ∷ ops) = answer_copied h changes op ∷ answers_copied h (with_copied changes (change_copied h changes op)) ops

-- what a branch comes to
abbrev pub outcome_copied : Terms → Option FailedCompare → List Op → Result Done Refusal
outcome_copied terms failed ops =
    let h : History = terms.history in
    unless (branch_refusal terms ops) (finished h failed (changes_copied h [] ops) (answers_copied h [] ops))
