use Rattle.std.proofs.Common.{◌≡◌, ◌≤◌}
use Rattle.stm_workers.specs.Attempts.{state_of}
use Rattle.stm_workers.specs.Calls.{IsOfJob}
use Rattle.stm_workers.proofs.AttemptLemmas.{HasLost}
use Rattle.stm_workers.proofs.access.HallAccess.attempt_from.Given as goal

-- nothing is committed yet, the attempt is one of the job, what was seen does not fall, and each commit before has failed
abbrev pub invariant-loop : goal.invariant-loop
invariant-loop g l = record {
  attempt : IsOfJob l.job l.attempt;
  parts : l.share.parts ≡ l.initial.share.parts;
  amount : l.share.amount ≡ l.initial.share.amount;
  seen : l.initial.seen ≤ l.seen;
  lost : HasLost g.R.RunOfJobs.before l.job l.initial.seen l.counter l.lost.items (state_of l.attempt l.seen);
}
