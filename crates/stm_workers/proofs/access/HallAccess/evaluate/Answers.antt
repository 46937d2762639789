use Rattle.std.proofs.Common.{arith}
use Rattle.std.proofs.lemmas.Result.{err_from_is_err_and}
use Rattle.stm_workers.specs.Attempts.{state_of}
use Rattle.stm_workers.proofs.AttemptLemmas.{reported_out, none_fetched, one_fetched, stops_there}
use Rattle.stm_workers.proofs.access.HallAccess.evaluate.Goals as goal

pub loop-init : goal.loop-init
loop-init g c = record {
  attempt = c.requires;
  seen = omega arith;
  fetched = none_fetched g.R.RunOfJobs.before c.args.job.now (state_of c.args.attempt.now c.args.seen.now);
}

pub returns-in_err-ready-clause-stops : goal.returns-in_err-ready-clause-stops
returns-in_err-ready-clause-stops g c =
    let exit = err_from_is_err_and c.from_residual.result c.from_residual.ensures.1 in
    reported_out c.from_residual.result _ exit.0 c.in_err-ready.field-0.0 exit.1 exit.2
    (stops_there g.R.RunOfJobs.before c.args.job.now (state_of c.args.attempt.now c.args.seen.now) (state_of c.loop.attempt c.loop.seen) _ _ c.loop.invariant.fetched
    c.in_err-ready.ensures.stops)

-- one fetch more
pub loop-preserved : goal.loop-preserved
loop-preserved g c = record {
  attempt = c.in_ok-ready.ensures.attempt;
  seen = let so_far = c.loop.invariant.seen in let here = c.go_on.ensures.never_falls in omega (arith, so_far, here);
  fetched = one_fetched g.R.RunOfJobs.before c.args.job.now (state_of c.args.attempt.now c.args.seen.now) (state_of c.loop.attempt c.loop.seen)
      (state_of c.go_on.new.attempt c.go_on.new.seen) c.loop.invariant.fetched (c.in_ok-ready.ensures.fetch c.in_default.is);
}
