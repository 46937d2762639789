use Rattle.std.proofs.lemmas.Result.{err_from_is_err_and}
use Rattle.stm_workers.specs.Commits.{commits_in}
use Rattle.stm_workers.specs.Calls.{committed_by}
use Rattle.stm_workers.proofs.AttemptLemmas.{refused_so}
use Rattle.stm_workers.proofs.LockedLemmas.{goes_further, keeps_further, same_count, same_kept, same_takes, adds_up, verdict_adds, verdict_keeps, verdict_takes}
use Rattle.stm_workers.proofs.locked.Locked.commit.Goals as goal

-- it was refused, and is as it was
pub invariant_of-self : goal.invariant_of-self
invariant_of-self g c =
    let old = c.args.self.now in
    record {
      gone_on = goes_further g.R.RunOfJobs.before old.hall c.commit_prepared.new.self old.gone_on c.commit_prepared.ensures.goes_on;
      kept = same_kept g.R.RunOfJobs.before old.hall c.commit_prepared.new.self c.in_err-verdict.ensures.verdict.1 old.kept;
      takes = same_takes g.R.RunOfJobs.jobs g.R.RunOfJobs.before old.hall c.commit_prepared.new.self c.in_err-verdict.ensures.verdict.1 old.takes;
      counted = same_count g.R.RunOfJobs.before old.hall c.commit_prepared.new.self old.commits.total c.in_err-verdict.ensures.verdict.1 old.counted;
    }

-- the book counts what the hall has more, which is of the run's jobs
pub invariant_of-self-2 : goal.invariant_of-self-2
invariant_of-self-2 g c =
    let old = c.args.self.now in
    let came = c.in_ok-verdict.ensures.verdict in
    record {
      gone_on = goes_further g.R.RunOfJobs.before old.hall c.commit_prepared.new.self old.gone_on c.commit_prepared.ensures.goes_on;
      kept = keeps_further g.R.RunOfJobs.before old.hall c.commit_prepared.new.self old.kept
          (verdict_keeps old.hall c.commit_prepared.new.self c.args.prepared c.in_ok-verdict.verdict came);
      takes = verdict_takes g.R.RunOfJobs.jobs g.R.RunOfJobs.before old.hall c.commit_prepared.new.self c.args.prepared c.in_ok-verdict.verdict old.gone_on
          old.takes c.requires.of_a_job came;
      counted = adds_up (commits_in g.R.RunOfJobs.before.entries) (commits_in old.hall.entries) (commits_in c.commit_prepared.new.self.entries)
          old.commits.total c.count.new.commits.total (committed_by c.in_ok-verdict.verdict)
          (verdict_adds old.hall c.commit_prepared.new.self c.args.prepared c.in_ok-verdict.verdict came) old.counted c.count.ensures.total;
    }

pub returns-in_err-verdict-clause-judged : goal.returns-in_err-verdict-clause-judged
returns-in_err-verdict-clause-judged g c =
    let exit = err_from_is_err_and c.from_residual.result c.from_residual.ensures.1 in
    refused_so g.R.RunOfJobs.before c.args.prepared c.args.self.now.hall c.commit_prepared.new.self c.from_residual.result exit.0 c.in_err-verdict.field-0.0 exit.1
    exit.2 c.args.self.now.kept c.in_err-verdict.ensures.verdict

pub returns-clause-judged : goal.returns-clause-judged
returns-clause-judged g c = (c.args.self.now.hall, c.commit_prepared.new.self, c.args.self.now.kept, c.in_ok-verdict.ensures.verdict)
