use Rattle.std.proofs.Common.{◌≤◌}
use Rattle.stm_workers.specs.Calls.{IsOfJob}
use Rattle.stm_workers.specs.Attempts.{state_of, HasFetched}
use Rattle.stm_workers.proofs.access.HallAccess.evaluate.Given as goal

-- it stays an attempt of the job, what was seen does not fall, and both are where its fetches have led
abbrev pub invariant-loop : goal.invariant-loop
invariant-loop g l = record {
  attempt : IsOfJob l.job l.attempt;
  seen : l.initial.seen ≤ l.seen;
  fetched : HasFetched g.R.RunOfJobs.before l.job (state_of l.initial.attempt l.initial.seen) (state_of l.attempt l.seen);
}
