use Rattle.std.proofs.Common.{inl}
use Rattle.std.proofs.lemmas.Result.{IfOk-weaker}
use Rattle.stm_workers.proofs.AttemptLemmas.{ends_by_stop}
use Rattle.stm_workers.proofs.access.HallAccess.run_job.Goals as goal

-- it has come to its end

pub returns-in-Ok-clause-came : goal.returns-in-Ok-clause-came
returns-in-Ok-clause-came g c = inl c.in-Ok.ensures.ends

pub returns-in-Err-clause-came : goal.returns-in-Err-clause-came
returns-in-Err-clause-came g c =
    IfOk-weaker c.end.result _ _ (λ end reported. ends_by_stop g.R.RunOfJobs.before _ _ _ _ c.in-Err.stop end reported c.in-Err.ensures.stops) c.end.ensures.reported
