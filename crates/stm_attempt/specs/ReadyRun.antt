-- An attempt that is ready to commit.
use Rattle.std.specs.Prelude.{◌≡◌, List}
use Rattle.stm_history.specs.declared.key_state.ReadAnswer.{ReadAnswer}
use Rattle.stm_program.specs.Syntax.{ProgramTree}
use Rattle.stm_program.specs.declared.level.Level.{Level}
use Rattle.stm_history.specs.declared.change.Change.{Change}
use Rattle.stm_program.specs.Writes.{latest_writes}
use Rattle.stm_steps.specs.declared.value.Value.{Value}
use Rattle.stm_steps.specs.declared.trace_item.TraceItem.{TraceItem}
use Rattle.stm_steps.specs.declared.run.End.TheVariants.{Done}
use Rattle.stm_steps.specs.declared.run.Run.{Run}
use Rattle.stm_steps.specs.declared.run.Answered.TheVariants.{Ended}
use Rattle.stm_attempt.specs.Settled.{run_on}

-- a program with its level, what it read, and what its run on that came to: its output, its trace, and the last write of each
-- key in the order of first writes
pub record ReadyRun : Type 0 where
  pub program : ProgramTree
  pub level : Level
  pub answers : List ReadAnswer
  pub output : List Value
  pub trace : List TraceItem
  pub writes : List Change

abbrev pub ready_parts : ProgramTree → Level → List ReadAnswer → List Value → List TraceItem → List Change → ReadyRun
ready_parts program level answers output trace writes =
    record { program = program; level = level; answers = answers; output = output; trace = trace; writes = writes }

-- what a run that is done makes ready
abbrev pub ready_run : ProgramTree → Level → List ReadAnswer → Run → ReadyRun
ready_run program level reads run = ready_parts program level reads run.output run.trace (latest_writes run.writes)

-- Output, trace and writes are those of the program's run on the answers, and that run is done.
pub record IsRunOnItsAnswers (ready : ReadyRun) : Type 0 where
  pub run : Run
  pub is_run : run_on ready.program ready.answers ≡ Ended run
  pub is_done : run.end ≡ Done
  pub emits : ready.output ≡ run.output
  pub sees : ready.trace ≡ run.trace
  pub writes : ready.writes ≡ latest_writes run.writes
