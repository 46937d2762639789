-- Where an interleaving can stand, and the moves that can be made there.
--
-- The documentation of the Go package `clientv3/concurrency`, "STM": transactions of several clients run side by side, and each of
-- them meets the store only where it fetches a key or commits. So a move is one step of one runner, or one event of the other clients.
use Rattle.std.specs.Prelude.{◌≡◌, ◌↔◌, ℕ, zero, suc, List, [], ◌∷◌, ◌++◌, length, Option, None, Some, Contains}
use Rattle.stm_events.specs.declared.event.WorldEvent.{WorldEvent}
use Rattle.stm_events.specs.declared.event.WorldEvent.TheVariants.{Step}
use Rattle.stm_world.specs.World.{World, Runner, Slot, runner_at, world_after}
use Rattle.stm_schedules.specs.declared.moves.Move.{Move}
use Rattle.stm_schedules.specs.declared.moves.Move.TheVariants.{Step as StepOf, Other}

-- a world, and the events that the others have yet to bring, in their order
pub record Place : Type 0 where
  pub world : World
  pub others : List WorldEvent

-- ---- the moves that can be made

-- the step of a runner, where it has not ended
abbrev pub step_if_running : ℕ → Option Runner → List Move
step_if_running id None = []
step_if_running id (Some r) = StepOf id ∷ []

-- the steps of the runners up to this number that have not ended, by their numbers
abbrev pub steps_up_to : ℕ → List Slot → List Move
steps_up_to zero slots = []
steps_up_to (suc n) slots = steps_up_to n slots ++ step_if_running (suc n) (runner_at (suc n) slots)

-- the next event of the others, where one is left
abbrev pub next_other : List WorldEvent → List Move
next_other [] = []
next_other (e ∷ es) = Other ∷ []

-- the moves that can be made, in their order: the steps of runners by number, then the others' next event
abbrev pub moves : Place → List Move
moves p = steps_up_to (length p.world.runners) p.world.runners ++ next_other p.others

-- ---- what a move comes to

-- the event of a move, where it has one
abbrev pub event_of : Move → List WorldEvent → List WorldEvent
event_of (StepOf id) others = Step id ∷ []
event_of Other [] = []
event_of Other (e ∷ es) = e ∷ []

-- what the others have yet to bring after a move
abbrev pub left_after : Move → List WorldEvent → List WorldEvent
left_after (StepOf id) others = others
left_after Other [] = []
left_after Other (e ∷ es) = es

-- the place that a move leads to
abbrev pub moved : Move → Place → Place
moved m p = record { world = world_after (event_of m p.others) p.world; others = left_after m p.others }

-- ---- laws

-- The moves that can be made are exactly the steps of runners that have not ended, and the next event of the others where one is left.
pub record MovesAreThose : Type 0 where
  pub steps : (p : Place) (id : ℕ) → Contains (moves p) (StepOf id) ↔ ((r : Runner) × (runner_at id p.world.runners ≡ Some r))
  pub others : (p : Place) → Contains (moves p) Other ↔ ((e : WorldEvent) × (es : List WorldEvent) × (p.others ≡ e ∷ es))
