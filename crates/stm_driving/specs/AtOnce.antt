-- A program that is run over a store at once, while nobody comes between.
use Rattle.std.specs.Prelude.{◌≡◌, List, None, Ok, All}
use Rattle.stm_history.specs.declared.key_state.ReadAnswer.{ReadAnswer}
use Rattle.stm_history.specs.History.{History}
use Rattle.stm_program.specs.Syntax.{ProgramTree}
use Rattle.stm_program.specs.declared.level.Level.{Level}
use Rattle.stm_program.specs.Writes.{latest_writes}
use Rattle.stm_steps.specs.declared.run.Run.{Run}
use Rattle.stm_steps.specs.declared.run.End.{End}
use Rattle.stm_steps.specs.declared.run.End.TheVariants.{Done, Aborted, Faulted}
use Rattle.stm_steps.specs.declared.run.Answered.TheVariants.{Ended}
use Rattle.stm_meaning.specs.Meaning.{run_over}
use Rattle.stm_outcome.specs.declared.answer.TxnAnswer.{TxnAnswer}
use Rattle.stm_txn.specs.Standing.{Standing, transacted}
use Rattle.stm_compile.specs.Answers.{state_now, answer_now}
use Rattle.stm_compile.specs.CommitTxn.{commit_of}

-- an answer shows its key as it is now
abbrev pub IsReadNow : History → ReadAnswer → Type 0
IsReadNow h a = a ≡ answer_now h a.key

-- the transaction that commits a run was made, of keys that were read as they are, and no compare failed
pub record IsCommittedAtOnce (level : Level) (run : Run) (before after : Standing) : Type 0 where
  pub reads : List ReadAnswer
  pub are_now : All (IsReadNow before.history) reads
  pub answer : TxnAnswer
  pub is_made : transacted before (commit_of level reads (latest_writes run.writes)) ≡ Ok record { answer = answer; next = after }
  pub none_failed : answer.failed ≡ None

-- a run that came to its last statement is committed, and another one changes nothing
abbrev pub LeavesAtOnce : End → Level → Run → Standing → Standing → Type 0
LeavesAtOnce Done level run before after = IsCommittedAtOnce level run before after
LeavesAtOnce (Aborted text) level run before after = after ≡ before
LeavesAtOnce (Faulted fault) level run before after = after ≡ before

pub record HasRunAtOnce (program : ProgramTree) (level : Level) (run : Run) (before after : Standing) : Type 0 where
  pub ran : run_over (state_now before.history) program.statements ≡ Ended run
  pub left : LeavesAtOnce run.end level run before after
