use Rattle.std.proofs.lemmas.Result.{err_from_is_err_and}
use Rattle.stm_workers.specs.Attempts.{state_of}
use Rattle.stm_workers.proofs.AttemptLemmas.{reported_out, commit_stops}
use Rattle.stm_workers.proofs.LockedLemmas.{ready_of_some}
use Rattle.stm_workers.proofs.access.HallAccess.try_once.Goals as goal

-- what is ready is a run of the job
pub send-requires-clause-of_a_job : goal.send-requires-clause-of_a_job
send-requires-clause-of_a_job g c =
    ready_of_some g.R.RunOfJobs.jobs c.args.job.now c.in_ok-ready.ready c.in_ok-ready.ensures.ready c.requires.of_a_job

-- the verdict was seen, after what the fetches answered
pub returns-clause-carried : goal.returns-clause-carried
returns-clause-carried g c = (c.evaluate.new.seen, c.evaluate.ensures.never_falls, c.greatest_of.ensures.greatest)

pub returns-clause-tried : goal.returns-clause-tried
returns-clause-tried g c = record {
  ready = c.in_ok-ready.ready;
  fetched = c.evaluate.new.seen;
  evaluated = c.in_ok-ready.ensures.evaluated;
  by_hall = c.in_ok-verdict.ensures.judged;
  sees = c.greatest_of.ensures.greatest;
}

-- its commit was refused
pub returns-in_err-verdict-clause-stops : goal.returns-in_err-verdict-clause-stops
returns-in_err-verdict-clause-stops g c =
    let exit = err_from_is_err_and c.from_residual-in_err-verdict.result c.from_residual-in_err-verdict.ensures.1 in
    reported_out c.from_residual-in_err-verdict.result _ exit.0 c.in_err-verdict.field-0.0 exit.1 exit.2
    (commit_stops g.R.RunOfJobs.before c.args.job.now (state_of c.args.attempt.now c.args.seen.now) c.in_ok-ready.ready c.in_err-verdict.field-0.0 c.evaluate.new.seen
    c.in_ok-ready.ensures.evaluated c.in_err-verdict.ensures.refused)
