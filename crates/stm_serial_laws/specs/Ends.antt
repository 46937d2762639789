-- How runners end in a serial run, and that they end so in a schedule at the serializable levels.
--
-- The documentation of the Go package `clientv3/concurrency`, "Isolation": at serializable and serializable snapshot all reads of an attempt are of one
-- revision, and a commit is as one step. So also a run that aborts, or comes to a fault, has seen one state of the store, as it was at some moment.
use Rattle.std.specs.Prelude.{◌≡◌, ◌≢◌, ◌≤◌, ℕ, ◌-◌, Bool, true, false, if◌then◌else◌, List, [], ◌∷◌, Option, None, Some, slice_get, slice_set}
use Rattle.stm_history.specs.History.{now}
use Rattle.stm_program.specs.Syntax.{ProgramTree}
use Rattle.stm_program.specs.Levels.{is_serializable}
use Rattle.stm_steps.specs.declared.value.Value.{Value}
use Rattle.stm_steps.specs.declared.run.End.{End}
use Rattle.stm_steps.specs.declared.run.End.TheVariants.{Done as DoneEnd, Aborted as AbortedEnd, Faulted as FaultedEnd}
use Rattle.stm_steps.specs.declared.run.Answered.{Answered}
use Rattle.stm_steps.specs.declared.run.Answered.TheVariants.{Ended as EndedRun, Wants}
use Rattle.stm_meaning.specs.Meaning.{run_over}
use Rattle.stm_txn.specs.Standing.{Standing}
use Rattle.stm_compile.specs.Answers.{state_now}
use Rattle.stm_world.specs.World.{Runner, runner_at, begin}
use Rattle.stm_world.specs.Sound.{IsSound}
use Rattle.stm_schedules.specs.declared.moves.Move.{Move}
use Rattle.stm_schedules.specs.declared.moves.Move.TheVariants.{Step as StepOf, Other}
use Rattle.stm_schedules.specs.declared.outcome.RunnerEnd.{RunnerEnd}
use Rattle.stm_schedules.specs.declared.outcome.RunnerEnd.TheVariants.{Committed, GaveUp, Aborted, Faulted, Ended}
use Rattle.stm_schedules.specs.Outcomes.{Ends, ends_after, AreKnown}
use Rattle.stm_schedules.specs.Places.{Place}
use Rattle.stm_schedules.specs.Schedules.{place_after, IsSchedule}
use Rattle.stm_serial.specs.Serial.{Point, point_of, serial_moved, serial_after, IsSerial, AreForeign}

-- ---- how a program ends that is run alone on a store

abbrev pub end_by : List Value → End → RunnerEnd
end_by output DoneEnd = Committed output
end_by output (AbortedEnd text) = Aborted text
end_by output (FaultedEnd fault) = Faulted fault

abbrev pub end_of_run : Answered → Option RunnerEnd
end_of_run (EndedRun run) = Some (end_by run.output run.end)
end_of_run (Wants key trace) = None

abbrev pub end_alone : ProgramTree → Standing → Option RunnerEnd
end_alone program s = end_of_run (run_over (state_now s.history) program.statements)

-- ---- how runners end in a serial run

-- what is known of the ends after a runner's whole run
abbrev pub with_run : ℕ → Option Runner → Standing → Ends → Ends
with_run id None s ends = ends
with_run id (Some r) s ends = slice_set ends (id - 1) (end_alone r.task.program s)

abbrev pub serial_ends_moved : Move → Point → Ends → Ends
serial_ends_moved (StepOf id) q ends = with_run id (runner_at id q.runners) q.standing ends
serial_ends_moved Other q ends = ends

abbrev pub serial_ends_after : List Move → Point → Ends → Ends
serial_ends_after [] q ends = ends
serial_ends_after (m ∷ ms) q ends = serial_ends_after ms (serial_moved m q) (serial_ends_moved m q ends)

-- ---- ends that count

-- a run that gave up, or that the store ended, has changed nothing: it counts as one that never began
abbrev pub counts : RunnerEnd → Bool
counts (Committed output) = true
counts (GaveUp key) = false
counts (Aborted text) = true
counts (Faulted fault) = true
counts (Ended cause) = false

abbrev pub counted : Option RunnerEnd → Option RunnerEnd
counted None = None
counted (Some end) = if counts end then Some end else None

-- what is known of the end of the runner with this number
abbrev pub known_at : Option (Option RunnerEnd) → Option RunnerEnd
known_at None = None
known_at (Some end) = end

abbrev pub end_at : ℕ → Ends → Option RunnerEnd
end_at id ends = known_at (slice_get ends (id - 1))

-- ---- the law

-- a runner at a serializable level that has made no step, and may send a commit
pub record IsFresh (r : Runner) : Type 0 where
  pub level : is_serializable r.task.level ≡ true
  pub begun : r ≡ begin r.task
  pub some : r.task.limit ≢ 0

-- a place from which every schedule ends as a serial run
pub record IsSerializable (p : Place) (ends : Ends) : Type 0 where
  pub sound : IsSound p.world
  pub counter : 1 ≤ now p.world.standing.history
  pub fresh : (id : ℕ) (r : Runner) → runner_at id p.world.runners ≡ Some r → IsFresh r
  pub foreign : AreForeign p.others
  pub known : AreKnown p.world.runners ends

-- a serial run that leaves the store, and the others, as a schedule does, and in which each runner ends as in the schedule, where that counts
pub record EndsSerially (schedule : List Move) (p : Place) (ends : Ends) : Type 0 where
  pub run : List Move
  pub is_serial : IsSerial run (point_of p)
  pub standing : (serial_after run (point_of p)).standing ≡ (place_after schedule p).world.standing
  pub others : (serial_after run (point_of p)).others ≡ (place_after schedule p).others
  pub ends_are : (id : ℕ) (r : Runner) → runner_at id p.world.runners ≡ Some r
      → end_at id (serial_ends_after run (point_of p) ends) ≡ counted (end_at id (ends_after schedule p ends))

abbrev pub SchedulesEndSerially : Type 0
SchedulesEndSerially = (schedule : List Move) (p : Place) (ends : Ends) → IsSerializable p ends → IsSchedule schedule p → EndsSerially schedule p ends
