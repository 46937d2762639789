use Rattle.std.proofs.Common.{◌≡◌, ℕ, List, Some, slice_get, refl, sym, subst, ap, ◌∙◌}
use Rattle.std.proofs.lemmas.List.Elements.{All-same, All-push}
use Rattle.stm_job.specs.declared.job.Job.{Job}
use Rattle.stm_workers.specs.Attempts.{HasCome}
use Rattle.stm_workers.proofs.LockedLemmas.{job_of_some}
use Rattle.stm_workers.specs.declared.worker.EndOf.{EndOf}
use Rattle.stm_workers.specs.Drawn.{jobs_of, committed_in, drawing}
use Rattle.stm_workers.specs.Runs.{HasItsRun}
use Rattle.stm_workers.proofs.SeatLemmas.{come_there, one_more, one_counted, some_run}
use Rattle.stm_workers.proofs.shared.Shared.bring_to_end.Goals as goal

-- the job at the place is one of the run's
pub run_job-requires-clause-of_a_job : goal.run_job-requires-clause-of_a_job
run_job-requires-clause-of_a_job g c =
    job_of_some _ _ _
    (subst (λ (jobs : List Job). slice_get jobs c.args.job ≡ Some c.job_at-it.result.now) c.args.self.now.are_its c.job_at-it.ensures)

pub at_work-requires-clause-one_left : goal.at_work-requires-clause-one_left
at_work-requires-clause-one_left g c =
    let last : EndOf = record { job = c.args.job; end = c.in_ok-end.end; lost = c.of-lost.result } in
    one_more _ _ last _ _ refl c.requires.drawn ∙ ap (λ (es : List EndOf). drawing _ (jobs_of es)) (sym c.in_ok-push.ensures.items)

pub at_work-requires-clause-counted : goal.at_work-requires-clause-counted
at_work-requires-clause-counted g c =
    let last : EndOf = record { job = c.args.job; end = c.in_ok-end.end; lost = c.of-lost.result } in (
      c.run_job.ensures.parts ∙ c.requires.counted.0,
      one_counted c.args.ended.items last c.args.share.amount c.run_job.new.share.amount c.requires.counted.1 c.in_ok-end.ensures.counted
          ∙ ap (λ (es : List EndOf). committed_in es) (sym c.in_ok-push.ensures.items),
    )

pub at_work-requires-clause-ran : goal.at_work-requires-clause-ran
at_work-requires-clause-ran g c =
    let last : EndOf = record { job = c.args.job; end = c.in_ok-end.end; lost = c.of-lost.result } in
    All-same (HasItsRun g.R.RunOfJobs.before g.R.RunOfJobs.jobs) _ _ c.in_ok-push.ensures.items
    (All-push (HasItsRun g.R.RunOfJobs.before g.R.RunOfJobs.jobs) c.args.ended.items last c.requires.ran
    (some_run g.R.RunOfJobs.before c.args.self.now.jobs.now g.R.RunOfJobs.jobs c.job_at-it.result.now last c.args.seen c.run_job.new.seen c.args.self.now.are_its c.job_at-it.ensures
    (subst (λ (keys : List (List ℕ)). HasCome g.R.RunOfJobs.before c.job_at-it.result.now c.args.seen c.in_ok-end.end c.run_job.new.seen keys)
    (sym c.of-lost.ensures) c.in_ok-end.ensures.came)))

pub returns-clause-came : goal.returns-clause-came
returns-clause-came g c = record {
  end = c.in_ok-end.end;
  lost = c.of-lost.result;
  ended = c.at_work.ensures.ended ∙ c.in_ok-push.ensures.items;
  came = subst (λ (then : ℕ). (job : Job) → slice_get c.args.self.now.jobs.now c.args.job ≡ Some job → HasCome g.R.RunOfJobs.before job c.args.seen c.in_ok-end.end then
      c.of-lost.result) (sym c.at_work.ensures.seen)
      (come_there g.R.RunOfJobs.before c.args.self.now.jobs.now c.args.job c.job_at-it.result.now c.args.seen c.in_ok-end.end c.run_job.new.seen c.of-lost.result
      c.job_at-it.ensures
      (subst (λ (keys : List (List ℕ)). HasCome g.R.RunOfJobs.before c.job_at-it.result.now c.args.seen c.in_ok-end.end c.run_job.new.seen keys)
      (sym c.of-lost.ensures) c.in_ok-end.ensures.came));
}
