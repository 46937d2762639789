-- What a worker has drawn, and the ends of the jobs that it drew.
use Rattle.std.specs.Prelude.{◌≡◌, ℕ, List, All, map, count_by, Some, slice_get}
use Rattle.stm_job.specs.declared.drawing.table.JobSeat.{JobSeat}
use Rattle.stm_job.specs.declared.drawing.view.Size.{Size}
use Rattle.stm_job.specs.declared.drawing.view.View.{View}
use Rattle.stm_job.specs.Draw.{EachOnce, IsWhole}
use Rattle.stm_job.specs.Seats.{seat_view}
use Rattle.stm_job.specs.declared.job_end.JobEnd.{JobEnd}
use Rattle.stm_job.specs.Ends.{is_committed}
use Rattle.stm_workers.specs.declared.worker.EndOf.{EndOf}

-- the jobs that a worker has brought to their ends, and how many of them it committed
abbrev pub jobs_of : List EndOf → List ℕ
jobs_of ended = map (λ e. e.job) ended

abbrev pub committed_in : List EndOf → ℕ
committed_in ended = count_by (λ e. is_committed e.end) ended

-- the ends without the places of their jobs, and over which keys commits failed before
abbrev pub ends_in : List EndOf → List JobEnd
ends_in ended = map (λ e. e.end) ended

abbrev pub lost_in : List EndOf → List (List (List ℕ))
lost_in ended = map (λ e. e.lost) ended

-- each end stands at the place of its job
abbrev pub EachAtItsPlace : List EndOf → List JobEnd → Type 0
EachAtItsPlace ended ends = All (λ (e : EndOf). slice_get ends e.job ≡ Some e.end) ended

-- the seat of a worker that was given one pass, after these draws
abbrev pub drawing : Size → List ℕ → View
drawing size numbers = record { size = size; drawn = numbers; past = 0; left = 1 }

-- and once it has used the pass
abbrev pub used_up : Size → List ℕ → View
used_up size numbers = record { size = size; drawn = numbers; past = 1; left = 0 }

-- the seat has all passes of a table of this size, so every job of it was drawn once, and none is left out
pub record HasDrawnAll (size : Size) (seat : JobSeat) : Type 0 where
  pub of_size : (seat_view seat).size ≡ size
  pub whole : IsWhole (seat_view seat)
  pub each_once : EachOnce size.jobs (seat_view seat).drawn
