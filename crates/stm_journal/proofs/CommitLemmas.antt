-- The transaction of a ready attempt comes to the commit of its run.
use Rattle.std.proofs.Common.{◌≡◌, ◌<◌, length, All, ◌∙◌, ap, arith}
use Rattle.std.proofs.lemmas.Bool.Decides.{nat_tests}
use Rattle.stm_history.specs.declared.key_state.ReadAnswer.{ReadAnswer}
use Rattle.stm_program.specs.Writes.{latest_writes}
use Rattle.stm_steps.specs.declared.run.Run.{Run}
use Rattle.stm_steps.specs.declared.run.Answered.TheVariants.{Ended}
use Rattle.stm_meaning.proofs.RunKeyLaws.{keys_are_not_empty}
use Rattle.stm_outcome.specs.Outcome.{outcome}
use Rattle.stm_txn.specs.Standing.{Standing, terms_of}
use Rattle.stm_compile.specs.Answers.{look_up}
use Rattle.stm_compile.specs.CommitTxn.{commit_of}
use Rattle.stm_compile.specs.Committed.{committed}
use Rattle.stm_compile.proofs.OutcomeLemmas.{commit_comes_to}
use Rattle.stm_attempt.specs.Settled.{run_on}
use Rattle.stm_attempt.specs.ReadyRun.{ReadyRun, IsRunOnItsAnswers}
use Rattle.stm_journal.specs.JournalState.{JournalState}
use Rattle.stm_journal.specs.Verdicts.{txn_of, sent_as, sent}

pub writes_are_latest : (ready : ReadyRun) (run : Run) → IsRunOnItsAnswers ready → run_on ready.program ready.answers ≡ Ended run →
    ready.writes ≡ latest_writes run.writes
writes_are_latest ready run kept ended = grind (arith, nat_tests)

pub comes_to : (s : Standing) (ready : ReadyRun) (run : Run) → IsRunOnItsAnswers ready →
    All (λ (a : ReadAnswer). 0 < length a.key) ready.answers → run_on ready.program ready.answers ≡ Ended run →
    outcome (terms_of s) (txn_of ready) ≡ committed (terms_of s) ready.level ready.answers run
comes_to s ready run kept named ended =
    ap (λ ws. outcome (terms_of s) (commit_of ready.level ready.answers ws)) (writes_are_latest ready run kept ended)
    ∙ commit_comes_to (terms_of s) ready.level ready.answers run named
    (keys_are_not_empty (look_up ready.answers) ready.program.statements run ended).2

-- so it is sent
pub sent_of_run : (journal : JournalState) (ready : ReadyRun) (run : Run) → IsRunOnItsAnswers ready →
    All (λ (a : ReadAnswer). 0 < length a.key) ready.answers → run_on ready.program ready.answers ≡ Ended run →
    sent journal ready ≡ sent_as journal ready (committed (terms_of journal.standing) ready.level ready.answers run)
sent_of_run journal ready run kept named ended = ap (sent_as journal ready) (comes_to journal.standing ready run kept named ended)
