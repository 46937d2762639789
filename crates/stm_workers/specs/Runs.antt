-- How the jobs of a list came to their ends, on the hall that was handed in (`handed`).
use Rattle.std.specs.Prelude.{◌≡◌, ℕ, List, [], ◌∷◌, ◌++◌, Some, slice_get}
use Rattle.stm_journal.specs.JournalState.{JournalState}
use Rattle.stm_job.specs.declared.job.Job.{Job}
use Rattle.stm_job.specs.declared.job_end.JobEnd.{JobEnd}
use Rattle.stm_workers.specs.Attempts.{HasCome, HasSomeRun}
use Rattle.stm_workers.specs.declared.worker.EndOf.{EndOf}

-- a worker that had seen this revision, and these ends, has brought the job at a place to its end
pub record BringsToEnd (handed : JournalState) (jobs : List Job) (place seen : ℕ) (before : List EndOf) (seen_then : ℕ) (after : List EndOf) : Type 0 where
  pub end : JobEnd
  pub lost : List (List ℕ)
  pub ended : after ≡ before ++ record { job = place; end = end; lost = lost } ∷ []
  pub came : (job : Job) → slice_get jobs place ≡ Some job → HasCome handed job seen end seen_then lost

-- the job whose end this is has come to it
abbrev pub HasItsRun : JournalState → List Job → EndOf → Type 0
HasItsRun handed jobs ended = (job : Job) → slice_get jobs ended.job ≡ Some job → HasSomeRun handed job ended.end ended.lost

-- each job has come to the end at its place, after commits that failed over the keys at that place
abbrev pub HaveTheirRuns : JournalState → List Job → List JobEnd → List (List (List ℕ)) → Type 0
HaveTheirRuns handed jobs ends lost =
    (place : ℕ) (job : Job) (end : JobEnd) (keys : List (List ℕ)) → slice_get jobs place ≡ Some job → slice_get ends place ≡ Some end
    → slice_get lost place ≡ Some keys → HasSomeRun handed job end keys
