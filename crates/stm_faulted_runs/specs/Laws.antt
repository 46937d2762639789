-- What runs are: runners are the runs that events begin, in their order.
use Rattle.std.specs.Prelude.{◌≡◌, ℕ, ◌+◌, List, map, reverse, Some, slice_get}
use Rattle.stm_txn.specs.Standing.{Setup}
use Rattle.stm_events.specs.declared.event.WorldEvent.{WorldEvent}
use Rattle.stm_world.specs.Task.{Task}
use Rattle.stm_world.specs.Log.{Line, begun}
use Rattle.stm_world.specs.Right.{AreRight}
use Rattle.stm_faulted_runs.specs.Places.{Started, started_in}

-- the events of a log, in their order
abbrev pub events_of : List Line → List WorldEvent
events_of log = reverse (map (λ (line : Line). line.event) log)

-- by a log a runner was begun, with the program of this run
pub record IsBegun (id : ℕ) (log : List Line) (run : Started) : Type 0 where
  pub task : Task
  pub was : begun id log ≡ Some task
  pub same : task.program ≡ run.program

-- In a log of right lines the run with a number, counted from 0, is that of the runner with the next number.
abbrev pub RunsAreBegun : Type 0
RunsAreBegun = (start : Setup) (first : ℕ) (log : List Line) → AreRight start log → (number : ℕ) (run : Started)
    → slice_get (started_in first (events_of log)) number ≡ Some run → IsBegun (number + 1) log run
