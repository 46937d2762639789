-- What a commit to a journal comes to.
--
-- The documentation of the Go package `clientv3/concurrency`, "STM": a commit is one transaction; where no compare fails its writes
-- are applied, else nothing is changed and the keys that were read are read again. There an attempt and its reads are the package's
-- own. Where an attempt is the caller's, the values that it says it read are looked at too, at the levels that compare. That a
-- commit of which no compare fails is refused for a value that is not the store's, is our own.
use Rattle.std.specs.Prelude.{◌≡◌, ◌⊎◌, ℕ, Bool, bytes_eq, not, if◌then◌else◌, List, [], ◌∷◌, map, length, Option, None, Some, Result, Ok, Err, slice_get}
use Rattle.std.specs.List.{find}
use Rattle.stm_history.specs.declared.key_state.ReadAnswer.{ReadAnswer}
use Rattle.stm_history.specs.History.{History, now, key_now, value_of}
use Rattle.stm_program.specs.declared.level.Level.{Level}
use Rattle.stm_program.specs.Levels.{is_comparing}
use Rattle.stm_outcome.specs.declared.txn.Txn.{Txn}
use Rattle.stm_outcome.specs.declared.answer.FailedCompare.{FailedCompare}
use Rattle.stm_outcome.specs.declared.refusal.Refusal.{Refusal}
use Rattle.stm_outcome.specs.declared.refusal.Refusal.TheVariants.{OutOfMemory}
use Rattle.stm_outcome.specs.Checks.{fault_of}
use Rattle.stm_outcome.specs.Compares.{first_failed}
use Rattle.stm_outcome.specs.Outcome.{Done, outcome}
use Rattle.stm_txn.specs.Standing.{Standing, with_history, terms_of}
use Rattle.stm_compile.specs.Answers.{answer_now}
use Rattle.stm_compile.specs.CommitTxn.{commit_of, reread_keys}
use Rattle.stm_compile.specs.Conflicts.{Seen, seen_by, seen_in}
use Rattle.stm_attempt.specs.ReadyRun.{ReadyRun}
use Rattle.stm_entries.specs.declared.entry.Entry.{Entry}
use Rattle.stm_entries.specs.declared.entry.Entry.TheVariants.{Program}
use Rattle.stm_entries.specs.Entered.{answers_kept}
use Rattle.stm_journal.specs.Prefetch.{MayBePrefetched}
use Rattle.stm_journal.specs.declared.verdict.Verdict.{Verdict}
use Rattle.stm_journal.specs.declared.verdict.Verdict.TheVariants.{Committed, Failed}
use Rattle.stm_journal.specs.declared.refusal.CommitRefusal.{CommitRefusal}
use Rattle.stm_journal.specs.declared.refusal.CommitRefusal.TheVariants.{Unvouched, Store}
use Rattle.stm_journal.specs.JournalState.{JournalState, JournalStep, journal_of, gone_on}

-- the transaction that commits a ready attempt
abbrev pub txn_of : ReadyRun → Txn
txn_of ready = commit_of ready.level ready.answers ready.writes

-- its entry, after which the store's revision is this: the answers that it read are kept at ReadCommitted alone
abbrev pub entry_of : ReadyRun → ℕ → Entry
entry_of ready revision = Program ready.program ready.level (answers_kept ready.level ready.answers) ready.output ready.trace revision

-- ---- a commit of which no compare failed

-- what it leaves: the store's transaction is made, and the commit is an entry
abbrev pub after_commit : JournalState → ReadyRun → Done → JournalState
after_commit journal ready done = gone_on journal (with_history journal.standing done.history) (entry_of ready (now done.history) ∷ [])

abbrev pub committed_as : JournalState → ReadyRun → Done → JournalStep Verdict
committed_as journal ready done = record { answer = Committed (length journal.entries) (now done.history); next = after_commit journal ready done }

abbrev pub taken : JournalState → ReadyRun → Result Done Refusal → Result (JournalStep Verdict) Refusal
taken journal ready (Ok done) = Ok (committed_as journal ready done)
taken journal ready (Err cause) = Err cause

-- what the store makes of the transaction
abbrev pub taken_by_store : JournalState → ReadyRun → Result (JournalStep Verdict) Refusal
taken_by_store journal ready = taken journal ready (outcome (terms_of journal.standing) (txn_of ready))

-- ---- a commit of which a compare failed

-- what is reported of it: its key, what was seen of that, its modification revision now, and what was read again
abbrev pub failed_with : ReadyRun → FailedCompare → List ReadAnswer → Verdict
failed_with ready failed answers =
    let seen : Seen = seen_in (slice_get (seen_by ready.answers ready.writes) failed.index) in
    Failed seen.key seen.mod_rev failed.mod_rev answers

abbrev pub failed_as : JournalState → ReadyRun → FailedCompare → JournalStep Verdict
failed_as journal ready failed = record {
  answer = failed_with ready failed (map (answer_now journal.standing.history) (reread_keys ready.level ready.answers));
  next = journal;
}

-- ---- an attempt whose answers are the store's own

abbrev pub decided : JournalState → ReadyRun → Done → Option FailedCompare → JournalStep Verdict
decided journal ready done None = committed_as journal ready done
decided journal ready done (Some failed) = failed_as journal ready failed

abbrev pub sent_as : JournalState → ReadyRun → Result Done Refusal → Result (JournalStep Verdict) Refusal
sent_as journal ready (Ok done) = Ok (decided journal ready done done.answer.failed)
sent_as journal ready (Err cause) = Err cause

-- Its commit is the store's transaction.
abbrev pub sent : JournalState → ReadyRun → Result (JournalStep Verdict) Refusal
sent journal ready = sent_as journal ready (outcome (terms_of journal.standing) (txn_of ready))

-- A commit comes to what its definition says, unless memory ran out. A refusal leaves the journal as it was.
abbrev pub SentReturns : Result (JournalStep Verdict) Refusal → JournalState → Result Verdict Refusal → JournalState → Type 0
SentReturns defined before (Ok verdict) after = defined ≡ Ok record { answer = verdict; next = after }
SentReturns defined before (Err cause) after = ((cause ≡ OutOfMemory) ⊎ (defined ≡ Err cause)) × (after ≡ before)

-- the same, of the store and the entries of a journal, whenever that was made
abbrev pub SendsAs : (JournalState → Result (JournalStep Verdict) Refusal) → Result Verdict Refusal → Standing → List Entry → Standing → List Entry → Type 0
SendsAs defined result s entries next more = (start : ℕ) →
    SentReturns (defined (journal_of s entries start)) (journal_of s entries start) result (journal_of next more start)

-- ---- an attempt whose answers are its caller's

-- an answer says another value than its key has now; an absent key has the empty text
abbrev pub has_other_value : History → ReadAnswer → Bool
has_other_value h a = not (bytes_eq (value_of a.kv) (value_of (key_now h a.key)))

-- the first of the answers that does, at the levels that compare
abbrev pub first_unvouched : History → Level → List ReadAnswer → Option ReadAnswer
first_unvouched h level answers = if is_comparing level then find (has_other_value h) answers else None

-- the store's refusal is the commit's
abbrev pub refused_by_store : {A : Type 0} → Result A Refusal → Result A CommitRefusal
refused_by_store (Ok answer) = Ok answer
refused_by_store (Err cause) = Err (Store cause)

abbrev pub unless_unvouched : Option ReadAnswer → Result (JournalStep Verdict) CommitRefusal → Result (JournalStep Verdict) CommitRefusal
unless_unvouched None next = next
unless_unvouched (Some a) next = Err (Unvouched a.key)

abbrev pub by_compares : JournalState → ReadyRun → Option FailedCompare → Result (JournalStep Verdict) CommitRefusal
by_compares journal ready (Some failed) = Ok (failed_as journal ready failed)
by_compares journal ready None =
    unless_unvouched (first_unvouched journal.standing.history ready.level ready.answers)
    (refused_by_store (taken_by_store journal ready))

abbrev pub unless_at_fault : Option Refusal → Result (JournalStep Verdict) CommitRefusal → Result (JournalStep Verdict) CommitRefusal
unless_at_fault None next = next
unless_at_fault (Some cause) next = Err (Store cause)

-- The verdict on a ready attempt: what is wrong with its transaction as a whole; else the first compare that fails; else the first
-- value that is not the store's; else what the store makes of the transaction. A refusal changes nothing.
abbrev pub verdict_of : JournalState → ReadyRun → Result (JournalStep Verdict) CommitRefusal
verdict_of journal ready =
    unless_at_fault (fault_of (terms_of journal.standing).limit (txn_of ready))
    (by_compares journal ready (first_failed (key_now journal.standing.history) 0 (txn_of ready).compares))

-- A commit comes to its verdict, unless memory ran out. A refusal leaves the journal as it was.
abbrev pub CommitReturns : Result (JournalStep Verdict) CommitRefusal → JournalState → Result Verdict CommitRefusal → JournalState → Type 0
CommitReturns defined before (Ok verdict) after = defined ≡ Ok record { answer = verdict; next = after }
CommitReturns defined before (Err cause) after = ((cause ≡ Store OutOfMemory) ⊎ (defined ≡ Err cause)) × (after ≡ before)

-- the same, of the store and the entries of a journal, whenever that was made
abbrev pub CommitsAs : ReadyRun → Result Verdict CommitRefusal → Standing → List Entry → Standing → List Entry → Type 0
CommitsAs ready result s entries next more = (start : ℕ) →
    CommitReturns (verdict_of (journal_of s entries start) ready) (journal_of s entries start) result (journal_of next more start)

-- the answers that a failed commit reports may be prefetched for the next attempt
abbrev pub CanGoOn : Verdict → Type 0
CanGoOn (Committed index revision) = Unit {0}
CanGoOn (Failed key seen now_modified answers) = MayBePrefetched answers
