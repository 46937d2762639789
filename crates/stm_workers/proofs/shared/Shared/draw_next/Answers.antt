use Rattle.std.proofs.Common.{◌<◌, ℕ, sym, ap, subst, ◌∙◌}
use Rattle.stm_job.specs.declared.drawing.view.Size.{Size}
use Rattle.stm_job.specs.declared.drawing.view.View.{View}
use Rattle.stm_job.specs.Draw.{drew}
use Rattle.stm_job.specs.Seats.{table_id, table_size}
use Rattle.stm_workers.proofs.SeatLemmas.{seat_at, none_left}
use Rattle.stm_workers.proofs.shared.Shared.draw_next.Goals as goal

-- the worker's seat is one of the table
pub draw-requires : goal.draw-requires
draw-requires g c =
    seat_at g.R.RunOfJobs.table (table_id c.args.self.now.table.now) g.R.RunOfJobs.size (table_size c.args.self.now.table.now) c.args.worker.seat
    (sym c.args.self.now.is_table.0) (sym c.args.self.now.is_table.1) c.args.worker.seated

-- no job is left
pub at_rest-requires-clause-seated : goal.at_rest-requires-clause-seated
at_rest-requires-clause-seated g c =
    seat_at (table_id c.args.self.now.table.now) g.R.RunOfJobs.table (table_size c.args.self.now.table.now) g.R.RunOfJobs.size c.draw.new.seat
    c.args.self.now.is_table.0 c.args.self.now.is_table.1 c.draw.ensures.seat

pub at_rest-requires-clause-none_left : goal.at_rest-requires-clause-none_left
at_rest-requires-clause-none_left g c = none_left _ _ _ _ c.args.worker.one_left c.in-None.ensures.drawn

-- a job of those that are there
pub bring_to_end-requires-clause-place : goal.bring_to_end-requires-clause-place
bring_to_end-requires-clause-place g c =
    subst (λ (n : ℕ). c.in-Some.job < n) (ap (λ (s : Size). s.jobs) c.args.self.now.is_table.1 ∙ sym c.args.self.now.is_sized) c.in-Some.ensures.drawn.1

pub bring_to_end-requires-clause-seated : goal.bring_to_end-requires-clause-seated
bring_to_end-requires-clause-seated g c =
    seat_at (table_id c.args.self.now.table.now) g.R.RunOfJobs.table (table_size c.args.self.now.table.now) g.R.RunOfJobs.size c.draw.new.seat
    c.args.self.now.is_table.0 c.args.self.now.is_table.1 c.draw.ensures.seat

pub bring_to_end-requires-clause-drawn : goal.bring_to_end-requires-clause-drawn
bring_to_end-requires-clause-drawn g c = c.in-Some.ensures.drawn.2 ∙ ap (λ (v : View). drew v c.in-Some.job) c.args.worker.one_left
