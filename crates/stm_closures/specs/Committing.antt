-- What a transaction as a closure comes to.
use Rattle.std.specs.Prelude.{◌≡◌, true, List, None, Result, Ok, Err, All}
use Rattle.std.specs.Borrow.{MutBor}
use denote.Param.Members.{Shared}
use Rattle.stm_history.specs.declared.key_state.ReadAnswer.{ReadAnswer}
use Rattle.stm_program.specs.declared.level.Level.{Level}
use Rattle.stm_history.specs.declared.change.Change.{Change}
use Rattle.stm_program.specs.Levels.{is_comparing, is_serializable}
use Rattle.stm_outcome.specs.declared.answer.TxnAnswer.{TxnAnswer}
use Rattle.stm_compile.specs.CommitTxn.{commit_of}
use Rattle.stm_compile.specs.Laws.{AreNow}
use Rattle.stm_attempt.specs.Fetches.{HaveOneBase}
use Rattle.stm_txn.specs.Standing.{Standing, transacted}
use Rattle.stm_entries.specs.Entered.{if_changed}
use Rattle.stm_journal.specs.JournalState.{JournalState, gone_on}
use Rattle.stm_hall.specs.Showing.{IsShown}
use Rattle.stm_closures.specs.TransactionState.{TransactionState}
use Rattle.stm_closures.specs.Transactions.{begun_after}
use Rattle.stm_closures.specs.declared.not_committed.NotCommitted.{NotCommitted}
use Rattle.stm_closures.specs.declared.not_committed.NotCommitted.TheVariants.{Closure, AttemptsUsedUp, Exchanged, Refused}

-- ---- commits

-- A commit that was made. The store's history shows all that was read. The store made the one transaction that compares what the level compares and writes
-- the last writes, and no compare failed. So at a level that compares, each key that was read holds, by value and by modification revision, what was read.
pub record IsCommitted (before : Standing) (level : Level) (reads : List ReadAnswer) (writes : List Change) (after : Standing) : Type 0 where
  pub shown : All (IsShown before.history) reads
  pub answer : TxnAnswer
  pub is_made : transacted before (commit_of level reads writes) ≡ Ok record { answer = answer; next = after }
  pub none_failed : answer.failed ≡ None
  pub now_so : is_comparing level ≡ true → AreNow before.history reads

-- in a hall it is an entry too, where it changed something
pub record IsCommittedInHall (before : JournalState) (level : Level) (reads : List ReadAnswer) (writes : List Change) (after : JournalState) : Type 0 where
  pub committed : IsCommitted before.standing level reads writes after.standing
  pub entered : after ≡ gone_on before after.standing (if_changed before.standing after.standing (commit_of level reads writes))

-- ---- calls of a closure

-- a call of an `Fn` at a `&mut` to t may return r, and leave t'
pub record Returns {F T R : Type 0} (g : Shared F (MutBor T × Unit {0}) (R × (MutBor T × Unit {0}))) (f : F) (t : T) (r : R) (t' : T) : Type 0 where
  pub shown : MutBor T
  pub shows : shown.now ≡ t
  pub left : MutBor T
  pub met : g.post f (shown, tt) (r, (left, tt))
  pub leaves : left.now ≡ t'

module _ {F R E : Type 0} (g : Shared F (MutBor TransactionState × Unit {0}) (Result R E × (MutBor TransactionState × Unit {0}))) (f : F) (level : Level) where
  -- The closure returned this, called at a transaction of this level that had just begun, and left the transaction so. At the serializable levels all that
  -- was read is of one revision.
  pub record HasRun (r : Result R E) (tx : TransactionState) : Type 0 where
    pub again : List ReadAnswer
    pub ran : Returns g f (begun_after level again) r tx

  -- The closure returned this answer, and what it read and wrote was committed: `holds` is the store's commit.
  pub record IsDone (holds : List ReadAnswer → List Change → Type 0) (answer : R) : Type 0 where
    pub tx : TransactionState
    pub run : HasRun (Ok answer) tx
    pub one_revision : is_serializable level ≡ true → HaveOneBase tx.reads
    pub committed : holds tx.reads tx.writes

  -- the closure returned this error
  pub record HasFailed (error : E) : Type 0 where
    pub tx : TransactionState
    pub run : HasRun (Err error) tx

-- this holds of the closure's own error, where it returned one
abbrev pub IfClosure : {E : Type 0} → (E → Type 0) → NotCommitted E → Type 0
IfClosure P (Closure error) = P error
IfClosure P AttemptsUsedUp = Unit {0}
IfClosure P Exchanged = Unit {0}
IfClosure P (Refused cause) = Unit {0}
