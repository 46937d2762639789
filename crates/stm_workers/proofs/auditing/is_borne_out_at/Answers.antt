use Rattle.stm_workers.proofs.AuditLemmas.{borne_there, reported_through}
use Rattle.stm_workers.proofs.auditing.is_borne_out_at.Goals as goal

pub returns : goal.returns
returns c =
    reported_through _ _ c.is_borne_out.result c.is_borne_out.ensures
    (borne_there c.args.begun c.args.hall.now c.args.jobs.now c.args.ends.now c.args.place c.job_at.result.now c.end_at.result.now c.job_at.ensures
    c.end_at.ensures)
