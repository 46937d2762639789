-- The transaction's outcome: from the terms of a store and a transaction to a refusal, or to an answer and a history.
use Rattle.std.specs.Prelude.{Bool, false, nat_eq, if◌then◌else◌, List, [], ◌∷◌, Option, Some, None, Result, Ok, Err, is_none}
use Rattle.stm_history.specs.declared.change.Change.{Change}
use Rattle.stm_history.specs.declared.revisions.TheConstants.{HIGHEST_REVISION}
use Rattle.stm_history.specs.History.{History, now, key_now, add_revision}
use Rattle.stm_outcome.specs.declared.txn.Txn.{Txn}
use Rattle.stm_outcome.specs.declared.txn.Op.{Op}
use Rattle.stm_outcome.specs.declared.answer.OpAnswer.{OpAnswer}
use Rattle.stm_outcome.specs.declared.answer.FailedCompare.{FailedCompare}
use Rattle.stm_outcome.specs.declared.answer.TxnAnswer.{TxnAnswer}
use Rattle.stm_outcome.specs.declared.refusal.Refusal.{Refusal}
use Rattle.stm_outcome.specs.declared.refusal.Refusal.TheVariants.{RevisionsUsedUp}
use Rattle.stm_outcome.specs.Terms.{Terms}
use Rattle.stm_outcome.specs.Compares.{first_failed}
use Rattle.stm_outcome.specs.Checks.{fault_of}
use Rattle.stm_outcome.specs.Branches.{begun, changes_of_branch, has_changes, answers_after, branch_refusal}

-- what a transaction that is not refused comes to
pub record Done : Type 0 where
  pub answer : TxnAnswer
  pub history : History

-- the branch that runs: the success list where no compare failed
abbrev pub chosen : Option FailedCompare → Txn → List Op
chosen None txn = txn.success
chosen (Some failed) txn = txn.failure

-- A transaction would change something: the branch that its compares pick puts a key, or deletes one that is present,
-- whether anything refuses it or not.
abbrev pub would_change : History → Txn → Bool
would_change h txn = has_changes (changes_of_branch h (chosen (first_failed (key_now h) 0 txn.compares) txn))

-- changes, if there are any, are one new revision
abbrev pub with_changes : History → List Change → History
with_changes h [] = h
with_changes h (c ∷ cs) = add_revision h (c ∷ cs)

-- nothing can change at the highest revision
abbrev pub is_used_up : History → List Change → Bool
is_used_up h [] = false
is_used_up h (c ∷ cs) = nat_eq (now h) HIGHEST_REVISION

abbrev pub answer_of : History → Option FailedCompare → List Change → List OpAnswer → TxnAnswer
answer_of h failed changes answers =
    record { succeeded = is_none failed; revision = now (with_changes h changes); answers = answers; failed = failed }

-- a branch that no operation refuses
abbrev pub finished : History → Option FailedCompare → List Change → List OpAnswer → Result Done Refusal
finished h failed changes answers =
    if is_used_up h changes then Err RevisionsUsedUp
    else Ok record { answer = answer_of h failed changes answers; history = with_changes h changes }

-- the first refusal, or else what comes next
abbrev pub unless : {T : Type 0} → Option Refusal → Result T Refusal → Result T Refusal
unless None next = next
unless (Some refusal) next = Err refusal

abbrev pub branch_outcome : Terms → Option FailedCompare → List Op → Result Done Refusal
branch_outcome terms failed ops =
    let h : History = terms.history in
    unless (branch_refusal terms ops) (finished h failed (changes_of_branch h ops) (answers_after h (begun h) ops))

abbrev pub outcome : Terms → Txn → Result Done Refusal
outcome terms txn =
    let failed : Option FailedCompare = first_failed (key_now terms.history) 0 txn.compares in
    unless (fault_of terms.limit txn) (branch_outcome terms failed (chosen failed txn))
