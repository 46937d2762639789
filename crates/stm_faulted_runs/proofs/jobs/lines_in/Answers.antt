use Rattle.std.proofs.Common.{[], List, refl, subst, arith}
use Rattle.std.specs.Prelude.{string_bytes}
use Rattle.std.proofs.lemmas.List.{drop_all}
use Rattle.stm_faulted_runs.specs.declared.jobs.FaultedJob.{FaultedJob}
use Rattle.stm_faulted_runs.specs.Origins.{origin_in}
use Rattle.stm_faulted_runs.proofs.LineLemmas.{HasSaid, all_reported, said_job, said_all, adds_all}
use Rattle.stm_faulted_runs.proofs.jobs.lines_in.Goals as goal

pub loop-job-preserved : goal.loop-job-preserved
loop-job-preserved c =
    said_job (origin_in c.args.explained.now) (all_reported c.args.jobs.now) [] (string_bytes c.loop-job.out) (string_bytes c.push_job.new.out)
    c.args.jobs.now c.loop-job.job-index c.job-item.result c.loop-job-test.true c.job-item.is c.loop-job.invariant c.in_ok-push_job.ensures

pub returns : goal.returns
returns c =
    let origin = origin_in c.args.explained.now in
    let jobs = c.args.jobs.now in
    let out = string_bytes c.loop-job.out in
    adds_all origin (all_reported jobs) [] out refl
    (said_all origin (all_reported jobs) [] out
    (subst (λ (js : List FaultedJob). HasSaid origin (all_reported jobs) [] out (all_reported js)) (drop_all c.loop-job.job-index jobs (omega arith))
    c.loop-job.invariant))
