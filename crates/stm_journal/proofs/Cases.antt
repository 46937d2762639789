-- What a commit came to, by cases of its verdict: for the proofs of those that send attempts whose answers are the store's own.
use Rattle.std.proofs.Common.{◌≡◌, ◌<◌, ℕ, List, map, length, All, Option, Some, None, Ok, Err, sym, ◌∙◌, arith}
use Rattle.std.specs.Prelude.{Result, slice_get}
use Rattle.std.proofs.lemmas.Bool.Decides.{nat_tests}
use Rattle.stm_history.specs.declared.key_state.ReadAnswer.{ReadAnswer}
use Rattle.stm_history.specs.History.{now}
use Rattle.stm_steps.specs.declared.run.Run.{Run}
use Rattle.stm_steps.specs.declared.run.Answered.TheVariants.{Ended}
use Rattle.stm_outcome.specs.declared.answer.FailedCompare.{FailedCompare}
use Rattle.stm_outcome.specs.declared.refusal.Refusal.{Refusal}
use Rattle.stm_outcome.specs.Outcome.{Done}
use Rattle.stm_txn.specs.Standing.{terms_of}
use Rattle.stm_compile.specs.Answers.{answer_now}
use Rattle.stm_compile.specs.CommitTxn.{reread_keys}
use Rattle.stm_compile.specs.Committed.{committed}
use Rattle.stm_compile.specs.Conflicts.{Seen, seen_by, seen_in}
use Rattle.stm_attempt.specs.Settled.{run_on}
use Rattle.stm_attempt.specs.ReadyRun.{ReadyRun, IsRunOnItsAnswers}
use Rattle.stm_journal.specs.declared.verdict.Verdict.{Verdict}
use Rattle.stm_journal.specs.declared.verdict.Verdict.TheVariants.{Committed, Failed}
use Rattle.stm_journal.specs.JournalState.{JournalState, JournalStep}
use Rattle.stm_journal.specs.Verdicts.{after_commit, decided, sent_as, sent}
use Rattle.stm_journal.proofs.CommitLemmas.{sent_of_run}

step_to : Verdict → JournalState → JournalStep Verdict
step_to verdict next = record { answer = verdict; next = next }

-- the attempt is the run of its program on its answers, and none of the keys that it read is empty
pub record IsOfRun (ready : ReadyRun) (run : Run) : Type 0 where
  pub kept : IsRunOnItsAnswers ready
  pub named : All (λ (a : ReadAnswer). 0 < length a.key) ready.answers
  pub ended : run_on ready.program ready.answers ≡ Ended run

-- ---- it committed

pub record HasCommitted (before after : JournalState) (ready : ReadyRun) (o : Result Done Refusal) (revision : ℕ) : Type 0 where
  pub done : Done
  pub taken : o ≡ Ok done
  pub none_failed : done.answer.failed ≡ None
  pub revision_is : revision ≡ now done.history
  pub left : after ≡ after_commit before ready done

committed_so : (before after : JournalState) (ready : ReadyRun) (index revision : ℕ) (o : Result Done Refusal) →
    sent_as before ready o ≡ Ok (step_to (Committed index revision) after) → HasCommitted before after ready o revision
unfolding step_to
committed_so before after ready index revision o reported = grind (arith, nat_tests, step_to)

pub has_committed : (before after : JournalState) (ready : ReadyRun) (run : Run) (index revision : ℕ) → IsOfRun ready run →
    sent before ready ≡ Ok record { answer = Committed index revision; next = after } →
    HasCommitted before after ready (committed (terms_of before.standing) ready.level ready.answers run) revision
unfolding step_to
has_committed before after ready run index revision r reported =
    committed_so before after ready index revision (committed (terms_of before.standing) ready.level ready.answers run)
    (sym (sent_of_run before ready run r.kept r.named r.ended) ∙ reported)

-- ---- a compare failed

pub record HasFailed (before after : JournalState) (ready : ReadyRun) (o : Result Done Refusal) (key : List ℕ) (seen now_modified : ℕ)
    (answers : List ReadAnswer) : Type 0 where
  pub done : Done
  pub taken : o ≡ Ok done
  pub failed : FailedCompare
  pub some_failed : done.answer.failed ≡ Some failed
  pub key_is : key ≡ (seen_in (slice_get (seen_by ready.answers ready.writes) failed.index)).key
  pub seen_is : seen ≡ (seen_in (slice_get (seen_by ready.answers ready.writes) failed.index)).mod_rev
  pub now_is : now_modified ≡ failed.mod_rev
  pub answers_are : answers ≡ map (answer_now before.standing.history) (reread_keys ready.level ready.answers)
  pub unchanged : after ≡ before

-- the parts of the verdict
record AreAlike (seen : Seen) (number : ℕ) (answers : List ReadAnswer) (key : List ℕ) (mod_rev now_modified : ℕ) (others : List ReadAnswer) : Type 0 where
  key_is : key ≡ seen.key
  seen_is : mod_rev ≡ seen.mod_rev
  now_is : now_modified ≡ number
  answers_are : others ≡ answers

failed_by : (before after : JournalState) (ready : ReadyRun) (key : List ℕ) (seen now_modified : ℕ) (answers : List ReadAnswer) (done : Done)
    (o : Option FailedCompare) → done.answer.failed ≡ o → decided before ready done o ≡ step_to (Failed key seen now_modified answers) after →
    HasFailed before after ready (Ok done) key seen now_modified answers
unfolding step_to
failed_by before after ready key seen now_modified answers done o none same = grind (arith, nat_tests)

failed_so : (before after : JournalState) (ready : ReadyRun) (key : List ℕ) (seen now_modified : ℕ) (answers : List ReadAnswer) (o : Result Done Refusal) →
    sent_as before ready o ≡ Ok (step_to (Failed key seen now_modified answers) after) → HasFailed before after ready o key seen now_modified answers
failed_so before after ready key seen now_modified answers o reported = grind (arith, nat_tests, step_to, failed_by)

pub has_failed : (before after : JournalState) (ready : ReadyRun) (run : Run) (key : List ℕ) (seen now_modified : ℕ) (answers : List ReadAnswer) →
    IsOfRun ready run → sent before ready ≡ Ok record { answer = Failed key seen now_modified answers; next = after } →
    HasFailed before after ready (committed (terms_of before.standing) ready.level ready.answers run) key seen now_modified answers
unfolding step_to
has_failed before after ready run key seen now_modified answers r reported = grind (arith, nat_tests, failed_so, sent_of_run)

-- ---- it is refused

refused_so : (before : JournalState) (ready : ReadyRun) (cause : Refusal) (o : Result Done Refusal) → sent_as before ready o ≡ Err cause → o ≡ Err cause
refused_so before ready cause o reported = grind (arith, nat_tests)

pub is_refused : (before : JournalState) (ready : ReadyRun) (run : Run) (cause : Refusal) → IsOfRun ready run → sent before ready ≡ Err cause →
    committed (terms_of before.standing) ready.level ready.answers run ≡ Err cause
is_refused before ready run cause r reported =
    refused_so before ready cause (committed (terms_of before.standing) ready.level ready.answers run)
    (sym (sent_of_run before ready run r.kept r.named r.ended) ∙ reported)
