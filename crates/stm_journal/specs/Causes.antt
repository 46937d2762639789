-- Why a commit is turned down before anything is written.
--
-- The documentation of the Go package `clientv3/concurrency`, "STM": a commit is one transaction. The order in which it is checked is that of a transaction
-- and, after its compares, our own.
use Rattle.std.specs.Prelude.{◌≡◌, Option, None, Some, Result, Ok, Err}
use Rattle.stm_history.specs.declared.key_state.ReadAnswer.{ReadAnswer}
use Rattle.stm_history.specs.History.{History, key_now, mod_of, value_of}
use Rattle.stm_outcome.specs.declared.answer.FailedCompare.{FailedCompare}
use Rattle.stm_outcome.specs.declared.refusal.Refusal.{Refusal}
use Rattle.stm_outcome.specs.Checks.{fault_of}
use Rattle.stm_outcome.specs.Compares.{first_failed}
use Rattle.stm_txn.specs.Standing.{Standing}
use Rattle.stm_attempt.specs.ReadyRun.{ReadyRun}
use Rattle.stm_journal.specs.declared.causes.Cause.{Cause}
use Rattle.stm_journal.specs.declared.causes.Cause.TheVariants.{Wrong, Fails, Unvouched}
use Rattle.stm_journal.specs.declared.verdict.Verdict.{Verdict}
use Rattle.stm_journal.specs.declared.refusal.CommitRefusal.{CommitRefusal}
use Rattle.stm_journal.specs.JournalState.{JournalState}
use Rattle.stm_journal.specs.Verdicts.{txn_of, first_unvouched, sent, SentReturns, verdict_of, CommitReturns}

abbrev pub cause_unvouched : Option ReadAnswer → Option Cause
cause_unvouched None = None
cause_unvouched (Some a) = Some Unvouched

abbrev pub cause_failed : Option FailedCompare → Option Cause → Option Cause
cause_failed None next = next
cause_failed (Some failed) next = Some (Fails failed)

abbrev pub cause_wrong : Option Refusal → Option Cause → Option Cause
cause_wrong None next = next
cause_wrong (Some fault) next = Some (Wrong fault)

-- of a commit with which nothing is wrong as a whole: the first compare that fails, else the first value that is not the store's
abbrev pub cause_compared : History → ReadyRun → Option Cause
cause_compared h ready =
    cause_failed (first_failed (key_now h) 0 (txn_of ready).compares) (cause_unvouched (first_unvouched h ready.level ready.answers))

-- a key still has the modification revision and the value that an answer says
pub record IsStill (h : History) (a : ReadAnswer) : Type 0 where
  pub modified : mod_of (key_now h a.key) ≡ mod_of a.kv
  pub value : value_of (key_now h a.key) ≡ value_of a.kv

-- of a commit to a store: what is wrong with its transaction as a whole at the store's limit of operations, else that
abbrev pub cause_of : Standing → ReadyRun → Option Cause
cause_of s ready = cause_wrong (fault_of s.limit (txn_of ready)) (cause_compared s.history ready)

-- of a commit whose answers are the store's own: what is wrong with its transaction as a whole, else the first compare that fails
abbrev pub unless_wrong : Option Refusal → Option FailedCompare → Result (Option FailedCompare) Refusal
unless_wrong None failed = Ok failed
unless_wrong (Some fault) failed = Err fault

abbrev pub checked : Standing → ReadyRun → Result (Option FailedCompare) Refusal
checked s ready = unless_wrong (fault_of s.limit (txn_of ready)) (first_failed (key_now s.history) 0 (txn_of ready).compares)

-- nothing turns down a commit whose answers are the store's own, before anything is written
pub record IsClear (s : Standing) (ready : ReadyRun) : Type 0 where
  pub right : fault_of s.limit (txn_of ready) ≡ None
  pub compared : first_failed (key_now s.history) 0 (txn_of ready).compares ≡ None

-- What is foreseen of it, and changes nothing: that it is turned down so, or that nothing turns it down before anything is written
abbrev pub IsForeseen : JournalState → ReadyRun → Result (Option Verdict) Refusal → Type 0
IsForeseen journal ready (Ok None) = IsClear journal.standing ready
IsForeseen journal ready (Ok (Some verdict)) = SentReturns (sent journal ready) journal (Ok verdict) journal
IsForeseen journal ready (Err cause) = SentReturns (sent journal ready) journal (Err cause) journal

-- it is foreseen so for every journal that has this store
abbrev pub IsForeseenBy : Standing → ReadyRun → Result (Option Verdict) Refusal → Type 0
IsForeseenBy s ready foreseen = (journal : JournalState) → journal.standing ≡ s → IsForeseen journal ready foreseen

-- It is turned down so in every journal that has this store, and that journal stays as it was.
abbrev pub TurnsDown : Standing → ReadyRun → Result Verdict CommitRefusal → Type 0
TurnsDown s ready result = (journal : JournalState) → journal.standing ≡ s → CommitReturns (verdict_of journal ready) journal result journal
