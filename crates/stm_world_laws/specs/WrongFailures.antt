-- Wrong failures, ends and runs, which show what the laws of attempts that come to nothing, and of entries that are appended, rule out.
use Rattle.std.specs.Prelude.{◌≡◌, ◌≢◌, ℕ, ◌+◌, ◌<◌, ◌≤◌, true, false, List, length, None, Some, slice_get}
use Rattle.stm_history.specs.declared.revisions.TheConstants.{HIGHEST_REVISION}
use Rattle.stm_history.specs.declared.key_state.ReadAnswer.{ReadAnswer}
use Rattle.stm_history.specs.History.{now}
use Rattle.stm_program.specs.declared.level.Level.TheVariants.{SerializableSnapshot, ReadCommitted}
use Rattle.stm_program.specs.Writes.{is_written}
use Rattle.stm_steps.specs.declared.run.End.TheVariants.{Done}
use Rattle.stm_steps.specs.declared.run.Run.{Run}
use Rattle.stm_steps.specs.declared.trace_item.TraceItem.{TraceItem}
use Rattle.stm_steps.specs.declared.run.Answered.TheVariants.{Ended, Wants}
use Rattle.stm_meaning.specs.Meaning.{run_over}
use Rattle.stm_outcome.specs.Commits.{revision_read}
use Rattle.stm_program.specs.Levels.{is_serializable}
use Rattle.stm_compile.specs.Answers.{answer_in, state_as_of}
use Rattle.stm_attempt.specs.Settled.{run_on}
use Rattle.stm_attempt.specs.Fetches.{base_of}
use Rattle.stm_entries.specs.declared.entry.Entry.{Entry}
use Rattle.stm_entries.specs.Replayed.{without_moment}
use Rattle.stm_events.specs.declared.event.WorldEvent.{WorldEvent}
use Rattle.stm_world.specs.Task.{Task}
use Rattle.stm_world.specs.Log.{Line, IsLogOf, begun, running, store, known_after_log}
use Rattle.stm_world.specs.World.{World, opened, replies_to}
use Rattle.stm_world.specs.Doomed.{FailedCommit, IsRealFailure, Stopped, IsRealStop, since, failed_commits}
use Rattle.stm_world.specs.Appended.{HasAppended}
use Rattle.stm_txn.specs.Standing.{Setup}

-- what a runner with a task has read in its attempt
abbrev pub reads_of : Setup → List Line → ℕ → Task → List ReadAnswer
reads_of start log id task = (known_after_log start id task log).reads

-- failures and ends after a log that are rejected
pub record WrongFailures : Type 0 where
  -- a failed commit of a runner that was not started, or has ended
  pub failure_of_none : (start : Setup) (log : List Line) (failed : FailedCommit) → running failed.runner log ≡ None → IsRealFailure start log failed → ⊥
  -- a failed commit of a program that has aborted, or was ended by a fault
  pub not_done : (start : Setup) (log : List Line) (task : Task) (failed : FailedCommit) (run : Run) → running failed.runner log ≡ Some task
      → run_on task.program (reads_of start log failed.runner task) ≡ Ended run → run.end ≢ Done → IsRealFailure start log failed → ⊥
  -- a failed commit of a program that still wants a key
  pub still_wants : (start : Setup) (log : List Line) (task : Task) (failed : FailedCommit) (key : List ℕ) (trace : List TraceItem)
      → running failed.runner log ≡ Some task → run_on task.program (reads_of start log failed.runner task) ≡ Wants key trace
      → IsRealFailure start log failed → ⊥
  -- a failed commit at ReadCommitted, where nothing is compared
  pub not_compared : (start : Setup) (log : List Line) (task : Task) (failed : FailedCommit) → running failed.runner log ≡ Some task
      → task.level ≡ ReadCommitted → IsRealFailure start log failed → ⊥
  -- a conflict over a key that was never read, at a level that compares nothing else
  pub never_read : (start : Setup) (log : List Line) (task : Task) (failed : FailedCommit) → running failed.runner log ≡ Some task
      → task.level ≢ SerializableSnapshot → answer_in failed.key (reads_of start log failed.runner task) ≡ None → IsRealFailure start log failed → ⊥
  -- a conflict over a key that was neither read nor written
  pub never_touched : (start : Setup) (log : List Line) (task : Task) (failed : FailedCommit) (run : Run) → running failed.runner log ≡ Some task
      → run_on task.program (reads_of start log failed.runner task) ≡ Ended run → answer_in failed.key (reads_of start log failed.runner task) ≡ None
      → is_written failed.key run.writes ≡ false → IsRealFailure start log failed → ⊥
  -- a conflict over a key that is as it was seen
  pub as_it_was : (start : Setup) (log : List Line) (failed : FailedCommit) → failed.now_modified ≡ failed.seen → IsRealFailure start log failed → ⊥
  -- a conflict over a key that is present, and was modified below what was seen of it
  pub not_above : (start : Setup) (log : List Line) (failed : FailedCommit) → 0 < failed.now_modified → failed.now_modified ≤ failed.seen
      → IsRealFailure start log failed → ⊥
  -- more failures of a run than revisions since its start
  pub more_failures_than_growth : (start : Setup) (events : List WorldEvent) (log : List Line) (id : ℕ) (task : Task) → start.revision ≤ HIGHEST_REVISION
      → begun id log ≡ Some task → now (store start log).history < since start id log + failed_commits id log
      → IsLogOf events (replies_to events (opened start)) log → ⊥
  -- an abort or a fault of a runner that was not started, or has ended
  pub stop_of_none : (start : Setup) (log : List Line) (stopped : Stopped) → running stopped.runner log ≡ None → IsRealStop start log stopped → ⊥
  -- an abort or a fault, at a serializable level, on answers that show two revisions
  pub torn_read : (start : Setup) (log : List Line) (task : Task) (stopped : Stopped) (key other : List ℕ) (a b : ReadAnswer)
      → running stopped.runner log ≡ Some task → is_serializable task.level ≡ true → answer_in key (reads_of start log stopped.runner task) ≡ Some a
      → answer_in other (reads_of start log stopped.runner task) ≡ Some b → a.of_rev ≢ b.of_rev → IsRealStop start log stopped → ⊥
  -- an abort or a fault, at a serializable level, to which the program alone on the state at that revision does not come
  pub another_end : (start : Setup) (log : List Line) (task : Task) (stopped : Stopped) (run : Run) → running stopped.runner log ≡ Some task
      → is_serializable task.level ≡ true
      → run_over (state_as_of (store start log).history (revision_read (store start log).history (base_of (reads_of start log stopped.runner task))))
      task.program.statements ≡ Ended run → run.end ≢ stopped.end → IsRealStop start log stopped → ⊥

-- worlds that no events lead to from an earlier one
pub record WrongRuns : Type 0 where
  -- an entry that was there is gone
  pub entry_lost : (old new : World) → length new.entries < length old.entries → HasAppended old new → ⊥
  -- another entry stands in the place of one that was there
  pub entry_changed : (old new : World) (n : ℕ) (was is : Entry) → slice_get old.entries n ≡ Some was → slice_get new.entries n ≡ Some is → is ≢ was
      → HasAppended old new → ⊥
  -- the history or the live leases changed, and no entry says so
  pub change_not_entered : (old new : World) → new.entries ≡ old.entries → without_moment new.standing ≢ without_moment old.standing
      → HasAppended old new → ⊥
