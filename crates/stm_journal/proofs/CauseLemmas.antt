-- The verdict on a commit by what is known of it before anything is written.
use Rattle.std.proofs.Common.{◌≡◌, ◌⊎◌, inl, ℕ, ◌<◌, List, [], ◌∷◌, map, length, Option, Some, None, Result, Ok, Err, IfOk, refl, sym, ◌∙◌, ap, subst, arith}
use Rattle.std.proofs.lemmas.Bool.Decides.{nat_tests}
use Rattle.stm_history.specs.declared.change.Change.{Change}
use Rattle.stm_history.specs.declared.key_state.ReadAnswer.{ReadAnswer}
use Rattle.stm_history.specs.History.{History, now, key_now, HasDistinctKeys}
use Rattle.stm_program.proofs.LatestLemmas.{latest_writes-distinct}
use Rattle.stm_outcome.specs.declared.answer.FailedCompare.{FailedCompare}
use Rattle.stm_outcome.specs.declared.refusal.Refusal.{Refusal}
use Rattle.stm_outcome.specs.declared.refusal.Refusal.TheVariants.{OutOfMemory}
use Rattle.stm_outcome.specs.declared.txn.Compare.{Compare}
use Rattle.stm_outcome.specs.Checks.{fault_of}
use Rattle.stm_outcome.specs.Compares.{first_failed}
use Rattle.stm_outcome.specs.Effect.{op_of}
use Rattle.stm_outcome.specs.Outcome.{Done, outcome, branch_outcome}
use Rattle.stm_outcome.proofs.Applying.{branch_applies, writes_apply, failed_compare_reads, failed_has_its_place, is_done}
use Rattle.stm_txn.specs.Standing.{Standing, Step, IsRefusalOf, terms_of, with_history, written}
use Rattle.stm_compile.specs.Answers.{answer_now}
use Rattle.stm_compile.specs.CommitTxn.{reread_keys}
use Rattle.stm_compile.proofs.OutcomeLemmas.{changes_are_distinct}
use Rattle.stm_attempt.specs.ReadyRun.{ReadyRun, IsRunOnItsAnswers}
use Rattle.stm_entries.specs.declared.entry.Entry.{Entry}
use Rattle.stm_journal.specs.declared.causes.Cause.TheVariants.{Wrong, Fails, Unvouched}
use Rattle.stm_journal.specs.declared.verdict.Verdict.{Verdict}
use Rattle.stm_journal.specs.declared.verdict.Verdict.TheVariants.{Committed}
use Rattle.stm_journal.specs.declared.refusal.CommitRefusal.{CommitRefusal}
use Rattle.stm_journal.specs.declared.refusal.CommitRefusal.TheVariants.{Store, Unvouched as UnvouchedRefusal}
use Rattle.stm_journal.specs.JournalState.{JournalState, JournalStep, journal_of, gone_on}
use Rattle.stm_journal.specs.Causes.{cause_of, checked, IsClear, IsForeseenBy, TurnsDown}
use Rattle.stm_journal.specs.Verdicts.{txn_of, entry_of, taken, taken_by_store, failed_with, sent_as, sent, SentReturns, SendsAs}
use Rattle.stm_journal.specs.Verdicts.{first_unvouched, refused_by_store, verdict_of, CommitReturns, CommitsAs, CanGoOn}
use Rattle.stm_journal.proofs.Sending.{IsCompared, verdict_compared, verdict_at_fault, verdict_taken}

-- ---- what a cause says

pub record IsClearOf (s : Standing) (ready : ReadyRun) : Type 0 where
  pub right : fault_of s.limit (txn_of ready) ≡ None
  pub compared : first_failed (key_now s.history) 0 (txn_of ready).compares ≡ None
  pub vouched : first_unvouched s.history ready.level ready.answers ≡ None

pub without_cause : (s : Standing) (ready : ReadyRun) → cause_of s ready ≡ None → IsClearOf s ready
without_cause s ready is = grind (arith, nat_tests)

pub caused_by_fault : (s : Standing) (ready : ReadyRun) (cause : Refusal) → cause_of s ready ≡ Some (Wrong cause) →
    fault_of s.limit (txn_of ready) ≡ Some cause
caused_by_fault s ready cause is = grind (arith, nat_tests)

pub caused_by_compare : (s : Standing) (ready : ReadyRun) (f : FailedCompare) → cause_of s ready ≡ Some (Fails f) →
    (fault_of s.limit (txn_of ready) ≡ None) × (first_failed (key_now s.history) 0 (txn_of ready).compares ≡ Some f)
caused_by_compare s ready f is = grind (arith, nat_tests)

-- nothing else is wrong, and this is the first value that is not the store's
pub record IsUnvouchedBy (fault : Option Refusal) (failed : Option FailedCompare) (unvouched : Option ReadAnswer) : Type 0 where
  pub right : fault ≡ None
  pub compared : failed ≡ None
  pub answer : ReadAnswer
  pub is_first : unvouched ≡ Some answer

abbrev pub IsUnvouchedOf : Standing → ReadyRun → Type 0
IsUnvouchedOf s ready =
    IsUnvouchedBy (fault_of s.limit (txn_of ready)) (first_failed (key_now s.history) 0 (txn_of ready).compares) (first_unvouched s.history ready.level ready.answers)

pub caused_by_value : (s : Standing) (ready : ReadyRun) → cause_of s ready ≡ Some Unvouched → IsUnvouchedOf s ready
caused_by_value s ready is = grind (arith, nat_tests)

-- ---- the changes of a commit

pub changes_of_ready : (ready : ReadyRun) → IsRunOnItsAnswers ready → HasDistinctKeys ready.writes
changes_of_ready ready kept = grind (arith, nat_tests, changes_are_distinct, latest_writes-distinct)

-- what a commit comes to that nothing turns down is what its changes come to
clear_is_written : (s : Standing) (ready : ReadyRun) (changes : List Change) → IsClear s ready → IsRunOnItsAnswers ready →
    changes ≡ ready.writes → outcome (terms_of s) (txn_of ready) ≡ branch_outcome (terms_of s) None (map op_of changes)
clear_is_written s ready changes c kept is = grind (arith, nat_tests, writes_apply, changes_of_ready, branch_applies)

write_to : ℕ → Standing → Step ℕ
write_to revision next = record { answer = revision; next = next }

abbrev WrittenBy : Standing → Standing → ℕ → Result Done Refusal → Type 0
WrittenBy s next revision o = (done : Done) × (o ≡ Ok done) × (now done.history ≡ revision) × (with_history s done.history ≡ next)

committed_to : ℕ → ℕ → JournalState → Result (JournalStep Verdict) Refusal
committed_to place revision next = Ok record { answer = Committed place revision; next = next }

-- the commit is made: its changes are in the store, and its entry stands after the others
pub reports_made : (journal after : JournalState) (ready : ReadyRun) (changes : List Change) (next : Standing) (index revision : ℕ) →
    IsClear journal.standing ready → IsRunOnItsAnswers ready → changes ≡ ready.writes →
    written journal.standing changes ≡ Ok record { answer = revision; next = next } → index ≡ length journal.entries →
    after ≡ gone_on journal next (entry_of ready revision ∷ []) →
    taken_by_store journal ready ≡ Ok record { answer = Committed index revision; next = after }
unfolding write_to committed_to
reports_made journal after ready changes next index revision clear kept is step place left = grind (arith, nat_tests, clear_is_written, committed_to, write_to)

same_refusal : (cause : Refusal) (o p : Result Done Refusal) → o ≡ p → (cause ≡ OutOfMemory) ⊎ (o ≡ Err cause) → (cause ≡ OutOfMemory) ⊎ (p ≡ Err cause)
same_refusal cause o p same reported = subst (λ (x : Result Done Refusal). (cause ≡ OutOfMemory) ⊎ (x ≡ Err cause)) same reported

as_reported : (journal : JournalState) (ready : ReadyRun) (cause : Refusal) →
    (cause ≡ OutOfMemory) ⊎ (outcome (terms_of journal.standing) (txn_of ready) ≡ Err cause) →
    (cause ≡ OutOfMemory) ⊎ (taken_by_store journal ready ≡ Err cause)
as_reported journal ready cause h4 = grind (arith, nat_tests)

-- the store refuses its changes
pub reports_not_made : (journal after : JournalState) (ready : ReadyRun) (changes : List Change) (cause : Refusal) → IsClear journal.standing ready →
    IsRunOnItsAnswers ready → changes ≡ ready.writes → IsRefusalOf (written journal.standing changes) cause → after ≡ journal →
    SentReturns (taken_by_store journal ready) journal (Err cause) after
reports_not_made journal after ready changes cause clear kept is refused same = grind (arith, nat_tests, as_reported, same_refusal, clear_is_written)

-- ---- the commit of an attempt whose values are looked at, where nothing turns it down

commit_by : (defined : Result (JournalStep Verdict) Refusal) (journal after : JournalState) (result : Result Verdict Refusal) →
    SentReturns defined journal result after → CommitReturns (refused_by_store defined) journal (refused_by_store result) after
commit_by defined journal after result reported = grind (arith, nat_tests)

pub goes_on_by : (result : Result Verdict Refusal) → IfOk result CanGoOn → IfOk (refused_by_store result) CanGoOn
goes_on_by result on = grind (arith, nat_tests)

pub commits_as_taken : (s next : Standing) (es more : List Entry) (ready : ReadyRun) (result : Result Verdict Refusal) → cause_of s ready ≡ None →
    SendsAs (λ journal. taken_by_store journal ready) result s es next more → CommitsAs ready (refused_by_store result) s es next more
commits_as_taken s next es more ready result clear reported = grind (arith, nat_tests, without_cause, verdict_taken, commit_by)

-- ---- the commit of an attempt whose answers are the store's own

pub checked_clear : (s : Standing) (ready : ReadyRun) (failed : Option FailedCompare) → checked s ready ≡ Ok failed →
    (fault_of s.limit (txn_of ready) ≡ None) × (first_failed (key_now s.history) 0 (txn_of ready).compares ≡ failed)
checked_clear s ready failed is = grind (arith, nat_tests)

-- its transaction is wrong as a whole
pub foreseen_wrong : (s : Standing) (ready : ReadyRun) (cause : Refusal) → checked s ready ≡ Err cause → IsForeseenBy s ready (Err cause)
foreseen_wrong s ready cause is = grind (arith, nat_tests)

-- nothing turns it down
pub foreseen_clear : (s : Standing) (ready : ReadyRun) → checked s ready ≡ Ok None → IsForeseenBy s ready (Ok None)
foreseen_clear s ready is = grind (arith, nat_tests, checked_clear)

-- no compare fails: what the store makes of it is what is sent
taken_so : (journal : JournalState) (ready : ReadyRun) (o : Result Done Refusal) → outcome (terms_of journal.standing) (txn_of ready) ≡ o →
    first_failed (key_now journal.standing.history) 0 (txn_of ready).compares ≡ None → taken journal ready o ≡ sent_as journal ready o
taken_so journal ready o is none = grind (arith, nat_tests, is_done)

pub sent_as_taken : (s next : Standing) (es more : List Entry) (ready : ReadyRun) (result : Result Verdict Refusal) → IsClear s ready →
    SendsAs (λ journal. taken_by_store journal ready) result s es next more → SendsAs (λ journal. sent journal ready) result s es next more
sent_as_taken s next es more ready result clear reported = λ start.
    subst (λ defined. SentReturns defined (journal_of s es start) result (journal_of next more start))
    (taken_so (journal_of s es start) ready (outcome (terms_of s) (txn_of ready)) refl clear.compared) (reported start)

-- a compare fails
sent_failed_to : Verdict → JournalState → Result (JournalStep Verdict) Refusal
sent_failed_to verdict next = Ok record { answer = verdict; next = next }

pub foreseen_failed : (s : Standing) (ready : ReadyRun) (f : FailedCompare) (verdict : Verdict) → checked s ready ≡ Ok (Some f) →
    verdict ≡ failed_with ready f (map (answer_now s.history) (reread_keys ready.level ready.answers)) → IsForeseenBy s ready (Ok (Some verdict))
unfolding sent_failed_to
foreseen_failed s ready f verdict is reported = λ journal same.
    let found = checked_clear s ready (Some f) is in
    ap (sent_as journal ready)
    (failed_compare_reads (terms_of journal.standing) (txn_of ready) (reread_keys ready.level ready.answers) f refl
    (ap (λ (x : Standing). fault_of x.limit (txn_of ready)) same ∙ found.0)
    (ap (λ (x : Standing). first_failed (key_now x.history) 0 (txn_of ready).compares) same ∙ found.1))
    ∙ ap (λ (x : Standing). sent_failed_to (failed_with ready f (map (answer_now x.history) (reread_keys ready.level ready.answers))) journal) same
    ∙ ap (λ (v : Verdict). sent_failed_to v journal) (sym reported)

pub foreseen_out : (s : Standing) (ready : ReadyRun) → IsForeseenBy s ready (Err OutOfMemory)
foreseen_out s ready = λ journal same. (inl refl, refl)

-- ---- a commit that is turned down

pub turned_wrong : (s : Standing) (ready : ReadyRun) (cause : Refusal) → cause_of s ready ≡ Some (Wrong cause) → TurnsDown s ready (Err (Store cause))
turned_wrong s ready cause is = grind (arith, nat_tests, verdict_at_fault, caused_by_fault)

failed_to : Verdict → JournalState → Result (JournalStep Verdict) CommitRefusal
failed_to verdict next = Ok record { answer = verdict; next = next }

pub turned_failed : (s : Standing) (ready : ReadyRun) (f : FailedCompare) (verdict : Verdict) → cause_of s ready ≡ Some (Fails f) →
    verdict ≡ failed_with ready f (map (answer_now s.history) (reread_keys ready.level ready.answers)) → TurnsDown s ready (Ok verdict)
unfolding failed_to
turned_failed s ready f verdict is reported = grind (arith, nat_tests, caused_by_compare, IsCompared, verdict_compared, failed_to)

pub turned_out : (s : Standing) (ready : ReadyRun) (result : Result Verdict CommitRefusal) → result ≡ Err (Store OutOfMemory) → TurnsDown s ready result
turned_out s ready result is = grind (arith, nat_tests)

pub turned_unvouched : (s : Standing) (ready : ReadyRun) (a : ReadAnswer) (key : List ℕ) → cause_of s ready ≡ Some Unvouched →
    first_unvouched s.history ready.level ready.answers ≡ Some a → key ≡ a.key → TurnsDown s ready (Err (UnvouchedRefusal key))
turned_unvouched s ready a key is first reported = grind (arith, nat_tests, caused_by_value, IsCompared, verdict_compared)

-- there is such a value
pub not_vouched : (s : Standing) (ready : ReadyRun) (o : Option ReadAnswer) → cause_of s ready ≡ Some Unvouched →
    o ≡ first_unvouched s.history ready.level ready.answers → o ≡ None → ⊥
not_vouched s ready o is first none = grind (arith, nat_tests, caused_by_value)

-- turned down by a journal's store, its entries are as they were
pub turned_there : (s : Standing) (es : List Entry) (ready attempt : ReadyRun) (result : Result Verdict CommitRefusal) → TurnsDown s attempt result →
    attempt ≡ ready → CommitsAs ready result s es s es
turned_there s es ready attempt result down same = λ start.
    subst (λ (r : ReadyRun). CommitReturns (verdict_of (journal_of s es start) r) (journal_of s es start) result (journal_of s es start)) same
    (down (journal_of s es start) refl)

-- ---- what is read again

-- what was read again by a store's keys
pub read_so : (h own : History) (inside ready : ReadyRun) (again : List ReadAnswer) → again ≡ map (answer_now own) (reread_keys inside.level inside.answers) →
    own ≡ h → inside ≡ ready → again ≡ map (answer_now h) (reread_keys ready.level ready.answers)
read_so h own inside ready again is same viewed = grind (arith, nat_tests)

pub failed_within : (h : History) (compares : List Compare) (f : FailedCompare) → first_failed (key_now h) 0 compares ≡ Some f → f.index < length compares
failed_within h compares f is = (failed_has_its_place (key_now h) compares f is).within
