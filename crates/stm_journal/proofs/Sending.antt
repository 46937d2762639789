-- What the transaction of a commit comes to is reported as the verdict.
use Rattle.std.proofs.Common.{◌≡◌, ℕ, ◌<◌, length, Option, Some, None, Result, Ok, Err, arith}
use Rattle.std.proofs.lemmas.Bool.Decides.{nat_tests}
use Rattle.stm_history.specs.History.{now, key_now}
use Rattle.stm_outcome.specs.declared.txn.Txn.{Txn}
use Rattle.stm_outcome.specs.declared.answer.TxnAnswer.{TxnAnswer}
use Rattle.stm_outcome.specs.declared.answer.FailedCompare.{FailedCompare}
use Rattle.stm_outcome.specs.declared.refusal.Refusal.{Refusal}
use Rattle.stm_outcome.specs.Checks.{fault_of}
use Rattle.stm_outcome.specs.Compares.{first_failed}
use Rattle.stm_outcome.specs.Outcome.{Done, outcome}
use Rattle.stm_txn.specs.Standing.{Standing, Step, with_history, transacted, terms_of}
use Rattle.stm_outcome.proofs.Applying.{is_done}
use Rattle.stm_compile.specs.Conflicts.{seen_by}
use Rattle.stm_attempt.specs.ReadyRun.{ReadyRun}
use Rattle.stm_journal.proofs.SeenLemmas.{compares_are_seen}
use Rattle.stm_journal.specs.declared.refusal.CommitRefusal.TheVariants.{Store}
use Rattle.stm_journal.specs.JournalState.{JournalState}
use Rattle.stm_journal.specs.Verdicts.{txn_of, first_unvouched, taken_by_store, refused_by_store, by_compares, verdict_of}

-- ---- the verdict, by what is known

-- nothing is wrong with the transaction as a whole, and this is the first compare that fails, if one does
pub record IsCompared (journal : JournalState) (ready : ReadyRun) (failed : Option FailedCompare) : Type 0 where
  pub right : fault_of (terms_of journal.standing).limit (txn_of ready) ≡ None
  pub compared : first_failed (key_now journal.standing.history) 0 (txn_of ready).compares ≡ failed

pub verdict_compared : (journal : JournalState) (ready : ReadyRun) (failed : Option FailedCompare) → IsCompared journal ready failed →
    verdict_of journal ready ≡ by_compares journal ready failed
verdict_compared journal ready failed c = grind (arith, nat_tests)

pub verdict_at_fault : (journal : JournalState) (ready : ReadyRun) (cause : Refusal) → fault_of (terms_of journal.standing).limit (txn_of ready) ≡ Some cause →
    verdict_of journal ready ≡ Err (Store cause)
verdict_at_fault journal ready cause is = grind (arith, nat_tests)

pub verdict_taken : (journal : JournalState) (ready : ReadyRun) → IsCompared journal ready None →
    first_unvouched journal.standing.history ready.level ready.answers ≡ None → verdict_of journal ready ≡ refused_by_store (taken_by_store journal ready)
verdict_taken journal ready c vouched = grind (arith, nat_tests, verdict_compared)

-- ---- a transaction that was answered

-- it came to this, with this answer, and left the store so
pub record IsAnswered (s after : Standing) (txn : Txn) (answer : TxnAnswer) : Type 0 where
  pub done : Done
  pub came : outcome (terms_of s) txn ≡ Ok done
  pub answered : done.answer ≡ answer
  pub left : with_history s done.history ≡ after

abbrev AnsweredBy : Standing → Standing → TxnAnswer → Result Done Refusal → Type 0
AnsweredBy s after answer o = (done : Done) × (o ≡ Ok done) × (done.answer ≡ answer) × (with_history s done.history ≡ after)

step_to : TxnAnswer → Standing → Step TxnAnswer
step_to answer next = record { answer = answer; next = next }

pub is_answered : (s after : Standing) (txn : Txn) (answer : TxnAnswer) → transacted s txn ≡ Ok record { answer = answer; next = after } →
    IsAnswered s after txn answer
unfolding step_to
is_answered s after txn answer step = grind (arith, nat_tests, step_to)

-- the revision that it reports is the store's after it
pub answer_revision : (s after : Standing) (txn : Txn) (answer : TxnAnswer) (a : IsAnswered s after txn answer) → now a.done.history ≡ answer.revision
answer_revision s after txn answer a = grind (arith, nat_tests, is_done)

-- ---- a compare that failed

-- a compare of a commit is about a key that was read or written
pub place_seen : (ready : ReadyRun) (txn : Txn) (i : ℕ) → txn.compares ≡ (txn_of ready).compares → i < length txn.compares →
    i < length (seen_by ready.answers ready.writes)
place_seen ready txn i is within = grind (arith, nat_tests, compares_are_seen)
