-- The law of the attempts of jobs.
use Rattle.std.proofs.Common.{◌≡◌, inl, inr, ℕ, ◌<◌, ◌≤◌, List, Some, refl, ⊎_elim, arith}
use Rattle.std.proofs.Math.Logic.{∥∥₁_elim}
use Rattle.std.proofs.lemmas.Bool.{cases_lt}
use mathlib.Core.HLevel.{⊥_prop}
use Rattle.stm_journal.specs.JournalState.{JournalState}
use Rattle.stm_journal.specs.declared.verdict.Verdict.{Verdict}
use Rattle.stm_journal.specs.declared.verdict.Verdict.TheVariants.{Committed, Failed}
use Rattle.stm_job.specs.Ends.{attempts_of}
use Rattle.stm_job.specs.declared.job.Job.{Job}
use Rattle.stm_job.specs.declared.job_end.JobEnd.{JobEnd}
use Rattle.stm_job.specs.declared.job_end.JobEnd.TheVariants.{GaveUp}
use Rattle.stm_workers.specs.declared.stop.Stop.{Stop}
use Rattle.stm_workers.specs.declared.stop.Stop.TheVariants.{OutOfMemory}
use Rattle.stm_workers.specs.Attempts.{job_end_reported, end_after, HasCome, HasSomeRun}
use Rattle.stm_workers.specs.Calls.{committed_by}
use Rattle.stm_workers.specs.Codes.{numbers_set}
use Rattle.stm_workers.specs.Laws.{IfGaveUp, AreAttemptsOf, AttemptsAreCounted}

at_most_all : (handed : JournalState) (job : Job) (seen : ℕ) (end : JobEnd) (after : ℕ) (lost : List (List ℕ)) → job.limit < attempts_of lost →
    HasCome handed job seen end after lost → ⊥
at_most_all handed job seen end after lost more (inl came) = let n = came.within in omega (arith, more, n)
at_most_all handed job seen end after lost more (inr came) = let n = came.within in omega (arith, more, n)

-- a verdict by which a job gives up counts no commit
no_commit : (verdict : Verdict) (key : List ℕ) → GaveUp key ≡ end_after verdict → committed_by verdict ≡ 0
no_commit (Committed index revision) key reported = absurd (cc)
no_commit (Failed failed seen modified answers) key reported = refl

-- and no stop is a giving up
no_stop : (stop : Stop) (key : List ℕ) → job_end_reported stop ≡ Some (GaveUp key) → ⊥
no_stop OutOfMemory key reported = absurd (cc)
no_stop _ key reported = absurd (cc)

all_made : (handed : JournalState) (job : Job) (seen : ℕ) (key : List ℕ) (after : ℕ) (lost : List (List ℕ)) → HasCome handed job seen (GaveUp key) after lost →
    attempts_of lost ≡ job.limit
all_made handed job seen key after lost (inl came) = came.then_is.last (no_commit came.then_is.verdict key came.then_is.reported)
all_made handed job seen key after lost (inr came) = absurd (no_stop came.then_is.stop key came.then_is.reported)

if_gave_up : (handed : JournalState) (job : Job) (end : JobEnd) (lost : List (List ℕ)) → HasSomeRun handed job end lost → IfGaveUp end (attempts_of lost ≡ job.limit)
if_gave_up handed job (GaveUp key) lost some =
    ∥∥₁_elim some (numbers_set (attempts_of lost) job.limit) (λ came. all_made handed job came.0 key came.1 lost came.2)
if_gave_up handed job _ lost some = tt

counted : (handed : JournalState) (job : Job) (end : JobEnd) (lost : List (List ℕ)) → HasSomeRun handed job end lost → AreAttemptsOf job end (attempts_of lost)
counted handed job end lost some = record {
  some = omega arith;
  within = ⊎_elim
      (λ (more : job.limit < attempts_of lost). absurd (∥∥₁_elim some ⊥_prop (λ came. at_most_all handed job came.0 end came.1 lost more came.2)))
      (λ (most : attempts_of lost ≤ job.limit). most)
      (cases_lt job.limit (attempts_of lost));
  all = if_gave_up handed job end lost some;
}

pub attempts_are_counted : AttemptsAreCounted
attempts_are_counted before jobs ends lost committed after ran place job end keys job_is end_is keys_are =
    counted before job end keys (ran.ran place job end keys job_is end_is keys_are)
