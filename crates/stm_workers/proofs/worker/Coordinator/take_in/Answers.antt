use Rattle.std.proofs.Common.{List, sym, ap, ◌∙◌}
use Rattle.std.proofs.lemmas.List.Elements.{All-same, All-append}
use Rattle.stm_job.specs.Seats.{seat_view}
use Rattle.stm_workers.specs.declared.worker.EndOf.{EndOf}
use Rattle.stm_workers.specs.Runs.{HasItsRun}
use Rattle.stm_workers.specs.Drawn.{jobs_of, committed_in}
use Rattle.stm_workers.proofs.SeatLemmas.{drawn_together, counted_together, even_together, past_together}
use Rattle.stm_workers.proofs.worker.Coordinator.take_in.Goals as goal

-- it is as it was
pub invariant_of-self : goal.invariant_of-self
invariant_of-self g c =
    let old = c.args.self.now in
    let same = c.in_err-append.ensures.items in
    record {
      seated = old.seated;
      drawn = old.drawn ∙ sym (ap jobs_of same);
      counted = old.counted ∙ sym (ap committed_in same);
      even = old.even;
      ran = All-same (HasItsRun g.R.RunOfJobs.before g.R.RunOfJobs.jobs) _ _ same old.ran;
    }

-- its draws, its commits and its passes are more by those of the worker
pub invariant_of-self-2 : goal.invariant_of-self-2
invariant_of-self-2 g c =
    let old = c.args.self.now in
    let retired = c.args.retired in
    record {
      seated = (c.join.ensures.seat.0 ∙ c.requires.0, c.join.ensures.seat.1 ∙ c.requires.1);
      drawn = drawn_together old.ended.items retired.ended.items (seat_view old.seat) (seat_view retired.seat) (seat_view c.join.new.seat) g.R.RunOfJobs.size old.drawn
          retired.none_left c.join.ensures.view
          ∙ sym (ap (λ (es : List EndOf). jobs_of es) c.in_ok-append.ensures.items);
      counted = counted_together old.ended.items retired.ended.items old.share.amount retired.share.amount c.merge.new.self.amount old.counted retired.counted.1
          c.merge.ensures.amount
          ∙ sym (ap (λ (es : List EndOf). committed_in es) c.in_ok-append.ensures.items);
      even = even_together _ _ _ _ _ _ _ _ old.even retired.none_left c.join.ensures.view retired.counted.0 c.merge.ensures.parts;
      ran = All-same (HasItsRun g.R.RunOfJobs.before g.R.RunOfJobs.jobs) _ _ c.in_ok-append.ensures.items
          (All-append (HasItsRun g.R.RunOfJobs.before g.R.RunOfJobs.jobs) old.ended.items retired.ended.items old.ran retired.ran);
    }

pub returns-clause-past : goal.returns-clause-past
returns-clause-past g c = past_together _ _ _ _ _ c.args.retired.none_left c.join.ensures.view
