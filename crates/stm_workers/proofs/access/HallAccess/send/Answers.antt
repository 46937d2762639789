use Rattle.std.proofs.Common.{◌≡◌, Ok, Err, true, inr, sym, subst}
use Rattle.stm_attempt.specs.ReadyRun.{ReadyRun}
use Rattle.stm_workers.specs.Calls.{JudgedInSomeHall, is_run_of_some}
use Rattle.stm_workers.proofs.AttemptLemmas.{judged_so}
use Rattle.stm_workers.proofs.access.HallAccess.send.Goals as goal

-- what was prepared is the attempt
pub commit-verdict-requires-clause-of_a_job : goal.commit-verdict-requires-clause-of_a_job
commit-verdict-requires-clause-of_a_job g c =
    subst (λ (r : ReadyRun). is_run_of_some g.R.RunOfJobs.jobs r.program r.level ≡ true) (sym c.prepare-prepared.ensures) c.requires.of_a_job

pub returns-in-Ok-clause-judged : goal.returns-in-Ok-clause-judged
returns-in-Ok-clause-judged g c =
    judged_so g.R.RunOfJobs.before c.args.ready c.commit-verdict.result (Ok c.in-Ok.verdict) c.in-Ok.is
    (subst (λ (r : ReadyRun). JudgedInSomeHall g.R.RunOfJobs.before r c.commit-verdict.result) c.prepare-prepared.ensures c.commit-verdict.ensures.judged)

-- the hall's refusal is returned
pub returns-in-Err-clause-refused : goal.returns-in-Err-clause-refused
returns-in-Err-clause-refused g c = inr (record {
  cause = c.in-Err.refusal;
  by_hall = judged_so g.R.RunOfJobs.before c.args.ready c.commit-verdict.result (Err c.in-Err.refusal) c.in-Err.is
      (subst (λ (r : ReadyRun). JudgedInSomeHall g.R.RunOfJobs.before r c.commit-verdict.result) c.prepare-prepared.ensures c.commit-verdict.ensures.judged);
  reported = c.of_commit.ensures;
})
