-- What contracts see of a table of jobs and of its seats.
use Rattle.std.specs.Prelude.{◌≡◌}
use Rattle.atomic_table.specs.Seated.{TableId}
use Rattle.stm_job.specs.declared.drawing.view.Size.{Size}
use Rattle.stm_job.specs.declared.drawing.view.View.{View}
use Rattle.stm_job.specs.declared.drawing.table.JobTable.{JobTable}
use Rattle.stm_job.specs.declared.drawing.table.JobSeat.{JobSeat}

-- how many jobs and seats a table was made for, and which table it is
abbrev pub table_size : JobTable → Size
table_size table = table.size

abbrev pub table_id : JobTable → TableId
table_id table = table.table.shared.table_id

-- what a seat knows
abbrev pub seat_view : JobSeat → View
seat_view seat = seat.seat.me.0

-- a seat of the table that has this id and size
abbrev pub IsSeatAt : TableId → Size → JobSeat → Type 0
IsSeatAt id size seat = (seat.seat.table_id ≡ id) × ((seat_view seat).size ≡ size)

-- a seat of this table
abbrev pub IsSeatOf : JobTable → JobSeat → Type 0
IsSeatOf table seat = IsSeatAt (table_id table) (table_size table) seat
