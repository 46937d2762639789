use Rattle.std.proofs.Common.{◌+◌, List, All, length, ap, sym, subst, ◌∙◌, count_by}
use Rattle.std.proofs.lemmas.Result.{IfOk-weaker}
use Rattle.stm_job.specs.declared.drawing.table.JobSeat.{JobSeat}
use Rattle.stm_job.specs.declared.drawing.view.Size.{Size}
use Rattle.stm_job.specs.Draw.{size_of}
use Rattle.stm_journal.specs.JournalState.{JournalState}
use Rattle.stm_job.specs.declared.job.Job.{Job}
use Rattle.stm_job.specs.Ends.{is_committed}
use Rattle.stm_workers.specs.Drawn.{HasDrawnAll}
use Rattle.stm_workers.specs.Runs.{HasItsRun}
use Rattle.stm_workers.proofs.SeatLemmas.{an_end_each, each_of_many}
use Rattle.stm_workers.proofs.RunLemmas.{gone_from, kept_from, taken_from, run_commits}
use Rattle.stm_workers.proofs.run.run_on.Goals as goal

-- each job has been drawn once
pub place_ends-requires : goal.place_ends-requires
place_ends-requires g c = each_of_many _ _ c.into_pieces-share.ensures.each_once

-- ---- the run came to its end

pub returns-in-Ok-clause-gone_on : goal.returns-in-Ok-clause-gone_on
returns-in-Ok-clause-gone_on g c = gone_from c.args.hall g.R.RunOfJobs.before c.close.result c.requires.hall c.close.ensures.gone_on

pub returns-in-Ok-clause-kept : goal.returns-in-Ok-clause-kept
returns-in-Ok-clause-kept g c = kept_from c.args.hall g.R.RunOfJobs.before c.close.result c.requires.hall c.close.ensures.kept

pub returns-in-Ok-clause-takes : goal.returns-in-Ok-clause-takes
returns-in-Ok-clause-takes g c =
    taken_from c.args.jobs.now g.R.RunOfJobs.jobs c.args.hall g.R.RunOfJobs.before c.close.result c.requires.jobs c.requires.hall c.close.ensures.takes

pub returns-in-Ok-clause-places : goal.returns-in-Ok-clause-places
returns-in-Ok-clause-places g c =
    let all = an_end_each _ _ c.into_pieces-share.ensures.each_once ∙ ap (λ (s : Size). s.jobs) c.requires.table.2 in
    IfOk-weaker c.place_ends.result _ _ (λ placed same. (same.0 ∙ all, same.1 ∙ all)) c.place_ends.ensures.length

pub returns-in-Ok-clause-commits : goal.returns-in-Ok-clause-commits
returns-in-Ok-clause-commits g c =
    IfOk-weaker c.place_ends.result _ _
    (λ placed same.
    run_commits c.args.hall g.R.RunOfJobs.before c.close.result _ _ (count_by is_committed placed.ends.items) c.requires.hall c.close.ensures.counted
    c.into_pieces-share.ensures.share.1 same) c.place_ends.ensures.counted

pub returns-in-Ok-clause-ran : goal.returns-in-Ok-clause-ran
returns-in-Ok-clause-ran g c =
    IfOk-weaker c.place_ends.result _ _
    (λ placed reported.
    reported c.args.hall c.args.jobs.now
    (subst (λ (h : JournalState). All (HasItsRun h c.args.jobs.now) c.into_pieces-share.result.1.items) (sym c.requires.hall)
    (subst (λ (js : List Job). All (HasItsRun g.R.RunOfJobs.before js) c.into_pieces-share.result.1.items) (sym c.requires.jobs) c.into_pieces-share.ensures.ran)))
    c.place_ends.ensures.ran

pub returns-in-Ok-clause-drawn : goal.returns-in-Ok-clause-drawn
returns-in-Ok-clause-drawn g c =
    let all = subst (λ (s : Size). HasDrawnAll s c.into_pieces-share.result.2) c.requires.table.2 c.into_pieces-share.ensures.drawn in
    IfOk-weaker c.place_ends.result _ _ (λ placed same. subst (λ (seat : JobSeat). HasDrawnAll (size_of (length c.args.jobs.now) (c.args.workers + 1)) seat) (sym same) all) c.place_ends.ensures.seat

-- ---- it was given up

pub returns-clause-gone_on : goal.returns-clause-gone_on
returns-clause-gone_on g c = gone_from c.args.hall g.R.RunOfJobs.before c.into_hall.result c.requires.hall c.into_hall.ensures.gone_on

pub returns-clause-kept : goal.returns-clause-kept
returns-clause-kept g c = kept_from c.args.hall g.R.RunOfJobs.before c.into_hall.result c.requires.hall c.into_hall.ensures.kept

pub returns-clause-takes : goal.returns-clause-takes
returns-clause-takes g c =
    taken_from c.args.jobs.now g.R.RunOfJobs.jobs c.args.hall g.R.RunOfJobs.before c.into_hall.result c.requires.jobs c.requires.hall c.into_hall.ensures.takes
