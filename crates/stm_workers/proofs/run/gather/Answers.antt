use Rattle.std.proofs.Common.{List, count_by, ap, ◌∙◌}
use Rattle.stm_job.specs.declared.job_end.JobEnd.{JobEnd}
use Rattle.stm_job.specs.Ends.{is_committed}
use Rattle.stm_workers.proofs.RunLemmas.{all_clear, at_fault}
use Rattle.stm_workers.proofs.run.gather.Goals as goal

pub returns-in-None-clause-committed : goal.returns-in-None-clause-committed
returns-in-None-clause-committed c =
    c.gathered_of.ensures.others.0
    ∙ c.count_committed-committed.ensures
    ∙ ap (λ (es : List JobEnd). count_by is_committed es) c.as_slice.ensures.value

pub returns-in-None-clause-stand : goal.returns-in-None-clause-stand
returns-in-None-clause-stand c =
    all_clear c.args.start c.args.hall c.args.jobs.now c.as_slice-2.result.now c.args.placed.ends.items c.as_slice-2.ensures.value c.in-None.ensures.stand

pub returns-in-Some-clause-cause : goal.returns-in-Some-clause-cause
returns-in-Some-clause-cause c =
    at_fault c.args.start c.args.hall c.args.jobs.now c.as_slice-2.result.now c.args.placed.ends.items c.at_fault.result.ends.items c.in-Some.cause
    c.at_fault.result.cause c.as_slice-2.ensures.value c.at_fault.ensures.1 c.at_fault.ensures.0 c.requires c.in-Some.ensures.cause
