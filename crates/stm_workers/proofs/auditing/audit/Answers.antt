use Rattle.stm_workers.proofs.AuditLemmas.{unborne_falls}
use Rattle.stm_workers.proofs.auditing.audit.Goals as goal

pub returns-in-Some-clause-fault : goal.returns-in-Some-clause-fault
returns-in-Some-clause-fault c =
    let reported = c.in-Some.ensures.fault in
    (reported.0, unborne_falls c.args.begun c.args.hall.now c.args.jobs.now c.args.ends.now c.in-Some.place reported.1)

-- then all are borne out
pub audit_names-requires-clause-borne : goal.audit_names-requires-clause-borne
audit_names-requires-clause-borne c = c.in-None.ensures.clear
