use Rattle.std.proofs.Common.{List, sym, ap, ◌∙◌, arith}
use Rattle.std.proofs.lemmas.List.Elements.{All-same, All-nil}
use Rattle.stm_job.specs.declared.drawing.view.View.{View}
use Rattle.stm_job.specs.Seats.{seat_view}
use Rattle.stm_workers.specs.declared.worker.EndOf.{EndOf}
use Rattle.stm_workers.specs.Runs.{HasItsRun}
use Rattle.stm_workers.specs.Drawn.{committed_in}
use Rattle.stm_workers.proofs.SeatLemmas.{newly_equipped}
use Rattle.stm_workers.proofs.worker.Coordinator.equip.Goals as goal

-- the new worker's seat has the one pass, and nothing is drawn
pub at_work-requires-clause-seated : goal.at_work-requires-clause-seated
at_work-requires-clause-seated g c = (
  c.split-seat.ensures.given.0.0 ∙ c.requires.table.0,
  c.split-seat.ensures.given.0.1 ∙ c.requires.table.1,
)

pub at_work-requires-clause-one_left : goal.at_work-requires-clause-one_left
at_work-requires-clause-one_left g c =
    newly_equipped _ _ (seat_view c.args.self.now.seat) (seat_view c.split-seat.result) c.args.self.now.seated.1
    c.new.ensures.items c.split-seat.ensures.given.1

pub at_work-requires-clause-counted : goal.at_work-requires-clause-counted
at_work-requires-clause-counted g c = (
  c.split_off-share.ensures.parts,
  c.split_off-share.ensures.amount ∙ sym (ap (λ (es : List EndOf). committed_in es) c.new.ensures.items),
)

pub at_work-requires-clause-ran : goal.at_work-requires-clause-ran
at_work-requires-clause-ran g c = All-same (HasItsRun g.R.RunOfJobs.before g.R.RunOfJobs.jobs) _ _ c.new.ensures.items (All-nil (HasItsRun g.R.RunOfJobs.before g.R.RunOfJobs.jobs))

-- a pass and a part less
pub invariant_of-self : goal.invariant_of-self
invariant_of-self g c =
    let old = c.args.self.now in
    let kept = c.split-seat.ensures.kept in
    let past = ap (λ (v : View). v.past) kept.1 in
    let left = ap (λ (v : View). v.left) kept.1 in
    record {
      seated = (kept.0.0 ∙ c.requires.table.0, kept.0.1 ∙ c.requires.table.1);
      drawn = ap (λ (v : View). v.drawn) kept.1 ∙ old.drawn;
      counted = omega (arith, c.split_off-share.ensures.amount_left, old.counted);
      even = omega (arith, past, left, old.even, c.split_off-share.ensures.parts_left, c.requires.passes);
      ran = old.ran;
    }
