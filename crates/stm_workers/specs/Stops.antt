-- The ends of jobs that are no commit, by what their programs do alone.
--
-- The documentation of the Go package `clientv3/concurrency`, "Isolation": what an attempt at a serializable level reads is of one revision, so that
-- no abort and no fault comes of reads that never held together.
use Rattle.std.specs.Prelude.{◌≡◌, ℕ, ◌≤◌, true, List, Some, slice_get}
use Rattle.stm_history.specs.History.{now}
use Rattle.stm_steps.specs.declared.run.End.{End}
use Rattle.stm_steps.specs.declared.run.End.TheVariants.{Aborted as AbortedEnd, Faulted as FaultedEnd}
use Rattle.stm_steps.specs.declared.run.Run.{Run}
use Rattle.stm_steps.specs.declared.run.Answered.TheVariants.{Ended as EndedRun}
use Rattle.stm_meaning.specs.Meaning.{run_over}
use Rattle.stm_program.specs.Levels.{is_serializable}
use Rattle.stm_compile.specs.Answers.{state_as_of}
use Rattle.stm_journal.specs.JournalState.{JournalState}
use Rattle.stm_workers.specs.declared.start_point.StartPoint.{StartPoint}
use Rattle.stm_job.specs.declared.job.Job.{Job}
use Rattle.stm_job.specs.declared.job_end.JobEnd.{JobEnd}
use Rattle.stm_job.specs.declared.job_end.JobEnd.TheVariants.{Committed, Aborted, Faulted, Refused, GaveUp}
use Rattle.stm_workers.specs.Ends.{start_point}
use Rattle.stm_workers.specs.Gathered.{RanTo}

-- The job's program, run alone on the state at some revision of the hall's history, comes to this end. The revision is not before the one at which
-- the hall was handed in.
pub record IsEndAlone (begun : StartPoint) (hall : JournalState) (job : Job) (end : End) : Type 0 where
  pub revision : ℕ
  pub begins : begun.revision ≤ revision
  pub reached : revision ≤ now hall.standing.history
  pub run : Run
  pub alone : run_over (state_as_of hall.standing.history revision) job.program.statements ≡ EndedRun run
  pub ends : run.end ≡ end

-- a fact of the end of a program, where a job ended so
abbrev pub OnStop : JobEnd → (End → Type 0) → Type 0
OnStop (Committed index revision) fact = Unit {0}
OnStop (Aborted text reads) fact = fact (AbortedEnd text)
OnStop (Faulted error reads) fact = fact (FaultedEnd error)
OnStop (Refused cause) fact = Unit {0}
OnStop (GaveUp key) fact = Unit {0}

-- Of a job at a serializable level that aborted or came to a fault, there is a state of the hall's history since it was handed in on which its
-- program, run alone, ends so: also where its commit would have failed.
abbrev pub StopsAreOfOneState : Type 0
StopsAreOfOneState =
    (before : JournalState) (jobs : List Job) (ends : List JobEnd) (lost : List (List (List ℕ))) (committed : ℕ) (after : JournalState)
    → RanTo before jobs ends lost committed after
    → (place : ℕ) (job : Job) (end : JobEnd) → slice_get jobs place ≡ Some job → slice_get ends place ≡ Some end → is_serializable job.level ≡ true
    → OnStop end (IsEndAlone (start_point before) after job)
