-- What several workers make of jobs.
--
-- etcd's API reference, "Revisions": one history, whoever changes the store. That the ends are reported by job, and which of them are
-- looked at, is our own.
use Rattle.std.specs.Prelude.{◌≡◌, ℕ, ◌+◌, ◌<◌, List, length, count_by}
use Rattle.stm_journal.specs.JournalState.{JournalState}
use Rattle.stm_hall.specs.Laws.{GoesOn}
use Rattle.stm_job.specs.declared.job.Job.{Job}
use Rattle.stm_job.specs.declared.job_end.JobEnd.{JobEnd}
use Rattle.stm_workers.specs.Calls.{HasKeptStore}
use Rattle.stm_job.specs.Ends.{is_committed}
use Rattle.stm_workers.specs.Commits.{commits_in, TookCommitsOf}
use Rattle.stm_job.specs.declared.gathered.FaultCause.{FaultCause}
use Rattle.stm_job.specs.declared.gathered.FaultCause.TheVariants.{OutOfMemory, Spawn, Audit}
use Rattle.stm_workers.specs.Ends.{start_point, AllStand, StandsAt}
use Rattle.stm_workers.specs.Runs.{HaveTheirRuns}

-- The jobs were run on this hall: each has its end at its place, to which it has come after commits that failed over the keys at that place, and each end
-- stands. The commits among the entries are those that were there and one for each job that committed. The entries that were there and the opening
-- state stay, and the others are commits of the jobs. Of the store the history alone has changed: the floor, the limit of operations, the leases,
-- their terms, the moment and the watchers stay.
pub record RanTo (before : JournalState) (jobs : List Job) (ends : List JobEnd) (lost : List (List (List ℕ))) (committed : ℕ) (after : JournalState) : Type 0 where
  pub places : length ends ≡ length jobs
  pub attempted : length lost ≡ length jobs
  pub counted : committed ≡ count_by is_committed ends
  pub commits : commits_in after.entries ≡ commits_in before.entries + committed
  pub stand : AllStand (start_point before) after jobs ends
  pub ran : HaveTheirRuns before jobs ends lost
  pub takes : TookCommitsOf jobs before after
  pub goes_on : GoesOn before after
  pub keeps : HasKeptStore before after

-- of these ends that of this job does not stand in the hall
abbrev pub IsAtFault : JournalState → List Job → List JobEnd → JournalState → ℕ → Type 0
IsAtFault before jobs ends after place =
    (place < length jobs) × (length ends ≡ length jobs) × (StandsAt (start_point before) after jobs ends place → ⊥)

-- a fact of the job that an audit names
abbrev pub OnAudit : FaultCause → (ℕ → Type 0) → Type 0
OnAudit OutOfMemory fact = Unit {0}
OnAudit Spawn fact = Unit {0}
OnAudit (Audit job) fact = fact job

-- The run was broken off: at an audit one of these ends does not stand. The hall has what was committed until then, all of it of the jobs, and its
-- store has kept the rest.
pub record BrokeOff (before : JournalState) (jobs : List Job) (cause : FaultCause) (ends : List JobEnd) (after : JournalState) : Type 0 where
  pub at_fault : OnAudit cause (IsAtFault before jobs ends after)
  pub takes : TookCommitsOf jobs before after
  pub goes_on : GoesOn before after
  pub keeps : HasKeptStore before after
