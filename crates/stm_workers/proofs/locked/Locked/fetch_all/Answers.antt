use Rattle.stm_workers.proofs.LockedLemmas.{same_gone, same_kept, same_takes, same_count}
use Rattle.stm_workers.proofs.locked.Locked.fetch_all.Goals as goal

-- it is as it was
pub invariant_of-self : goal.invariant_of-self
invariant_of-self g c =
    let old = c.args.self.now in
    record {
      gone_on = same_gone g.R.RunOfJobs.before old.hall c.fetch.new.self c.fetch.ensures.same old.gone_on;
      kept = same_kept g.R.RunOfJobs.before old.hall c.fetch.new.self c.fetch.ensures.same old.kept;
      takes = same_takes g.R.RunOfJobs.jobs g.R.RunOfJobs.before old.hall c.fetch.new.self c.fetch.ensures.same old.takes;
      counted = same_count g.R.RunOfJobs.before old.hall c.fetch.new.self old.commits.total c.fetch.ensures.same old.counted;
    }

pub returns-clause-answer : goal.returns-clause-answer
returns-clause-answer g c = (c.args.self.now.hall, c.args.self.now.kept, c.fetch.ensures.answer)
