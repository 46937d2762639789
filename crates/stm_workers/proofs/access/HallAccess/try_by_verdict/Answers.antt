use Rattle.stm_workers.specs.Calls.{committed_by}
use Rattle.stm_workers.proofs.OutcomeLemmas.{ended_counts, again_counts, stopped_counts}
use Rattle.stm_workers.proofs.AttemptLemmas.{ends_by, fails_by, stops_by}
use Rattle.stm_workers.proofs.access.HallAccess.try_by_verdict.Goals as goal

-- the end counts what the verdict did
pub returns-clause-counted : goal.returns-clause-counted
returns-clause-counted g c =
    ended_counts c.after_verdict.result c.args.share.now.amount c.try_once.new.share.amount (committed_by c.in_ok-verdict.verdict)
    c.in_ok-verdict.ensures.committed c.after_verdict.ensures.counted

pub returns-clause-again : goal.returns-clause-again
returns-clause-again g c =
    again_counts c.args.job.now c.after_verdict.new.attempt c.after_verdict.result c.args.share.now.amount c.try_once.new.share.amount (committed_by c.in_ok-verdict.verdict)
    c.in_ok-verdict.ensures.committed c.after_verdict.ensures.again

pub returns-clause-stopped : goal.returns-clause-stopped
returns-clause-stopped g c =
    stopped_counts c.after_verdict.result c.args.share.now.amount c.try_once.new.share.amount (committed_by c.in_ok-verdict.verdict)
    c.in_ok-verdict.ensures.committed c.after_verdict.ensures.stopped

-- ---- what it comes to

pub returns-clause-ends : goal.returns-clause-ends
returns-clause-ends g c = ends_by g.R.RunOfJobs.before _ _ _ _ _ _ c.in_ok-verdict.ensures.tried c.after_verdict.ensures.reported

pub returns-clause-fails : goal.returns-clause-fails
returns-clause-fails g c = fails_by g.R.RunOfJobs.before _ _ c.after_verdict.new.attempt _ _ _ _ c.in_ok-verdict.ensures.tried c.after_verdict.ensures.next

pub returns-clause-stops : goal.returns-clause-stops
returns-clause-stops g c = stops_by g.R.RunOfJobs.before _ _ _ _ c.after_verdict.ensures.want
