-- A law of the attempts of jobs, carried by a function of `src/laws.rt`.
--
-- The documentation of the Go package `clientv3/concurrency`, "STM": a transaction whose commit fails is run again. How often it is run is our own.
use Rattle.std.specs.Prelude.{◌≡◌, ℕ, ◌≤◌, List, Some, slice_get}
use Rattle.stm_journal.specs.JournalState.{JournalState}
use Rattle.stm_job.specs.declared.job.Job.{Job}
use Rattle.stm_job.specs.declared.job_end.JobEnd.{JobEnd}
use Rattle.stm_job.specs.declared.job_end.JobEnd.TheVariants.{Committed, Aborted, Faulted, Refused, GaveUp}
use Rattle.stm_job.specs.Ends.{attempts_of}
use Rattle.stm_workers.specs.Gathered.{RanTo}

-- a job that gave up has made all the attempts that it may
abbrev pub IfGaveUp : JobEnd → Type 0 → Type 0
IfGaveUp (Committed index revision) fact = Unit {0}
IfGaveUp (Aborted text reads) fact = Unit {0}
IfGaveUp (Faulted fault reads) fact = Unit {0}
IfGaveUp (Refused cause) fact = Unit {0}
IfGaveUp (GaveUp key) fact = fact

-- this many attempts may end so
pub record AreAttemptsOf (job : Job) (end : JobEnd) (attempts : ℕ) : Type 0 where
  pub some : 1 ≤ attempts
  pub within : attempts ≤ job.limit
  pub all : IfGaveUp end (attempts ≡ job.limit)

-- Of each job that was run at least one attempt was made, and at most as many as it may send commits; of one that gave up it was exactly that many.
abbrev pub AttemptsAreCounted : Type 0
AttemptsAreCounted =
    (before : JournalState) (jobs : List Job) (ends : List JobEnd) (lost : List (List (List ℕ))) (committed : ℕ) (after : JournalState)
    → RanTo before jobs ends lost committed after
    → (place : ℕ) (job : Job) (end : JobEnd) (keys : List (List ℕ)) → slice_get jobs place ≡ Some job → slice_get ends place ≡ Some end
    → slice_get lost place ≡ Some keys → AreAttemptsOf job end (attempts_of keys)
