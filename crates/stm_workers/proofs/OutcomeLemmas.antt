-- What an attempt that was not the last one counts, from its verdict.
use Rattle.std.proofs.Common.{◌≡◌, ℕ, ◌+◌, List, Result, Ok, Err, IfOk, OnErr, sym, ◌∙◌, ap, arith}
use Rattle.stm_attempt.specs.AttemptState.{AttemptState}
use Rattle.stm_job.specs.declared.job.Job.{Job}
use Rattle.stm_job.specs.declared.job_end.JobEnd.{JobEnd}
use Rattle.stm_workers.specs.declared.attempts.AttemptOutcome.{AttemptOutcome}
use Rattle.stm_workers.specs.declared.attempts.AttemptOutcome.TheVariants.{Ended, Again}
use Rattle.stm_workers.specs.declared.stop.Stop.{Stop}
use Rattle.stm_workers.specs.Calls.{counted_end, IsOfJob}
use Rattle.stm_workers.specs.AttemptOutcomes.{IfEnded, IfAgain}

-- the end counts what the verdict did
pub ended_counts : (result : Result AttemptOutcome Stop) (before after added : ℕ) → after ≡ before + added →
    IfOk result (IfEnded (λ (end : JobEnd). counted_end end ≡ added)) → IfOk result (IfEnded (λ (end : JobEnd). after ≡ before + counted_end end))
ended_counts (Ok (Ended end)) before after added sum same = sum ∙ ap (λ (n : ℕ). before + n) (sym same)
ended_counts (Ok (Again key)) before after added sum same = tt
ended_counts (Err stop) before after added sum same = tt

-- a verdict after which the job goes on counts nothing
pub again_counts : (job : Job) (next : AttemptState) (result : Result AttemptOutcome Stop) (before after added : ℕ) → after ≡ before + added →
    IfOk result (IfAgain (λ (key : List ℕ). IsOfJob job next × (added ≡ 0))) →
    IfOk result (IfAgain (λ (key : List ℕ). IsOfJob job next × (after ≡ before)))
again_counts job next (Ok (Ended end)) before after added sum goes = tt
again_counts job next (Ok (Again key)) before after added sum goes = (goes.0, let none = goes.1 in omega (arith, sum, none))
again_counts job next (Err stop) before after added sum goes = tt

pub stopped_counts : (result : Result AttemptOutcome Stop) (before after added : ℕ) → after ≡ before + added → OnErr result (added ≡ 0) →
    OnErr result (after ≡ before)
stopped_counts (Ok tried) before after added sum none = tt
stopped_counts (Err stop) before after added sum none = omega (arith, sum, none)
