-- Schedules as runs of their events.
use Rattle.std.proofs.Common.{◌≡◌, List, [], ◌∷◌, ◌++◌, refl, arith}
use Rattle.std.proofs.lemmas.Bool.Decides.{nat_tests}
use Rattle.stm_world.specs.World.{world_after}
use Rattle.stm_schedules.specs.declared.moves.Move.{Move}
use Rattle.stm_schedules.specs.Places.{Place, moved}
use Rattle.stm_schedules.specs.Schedules.{place_after, IsSchedule, events_along, SchedulesAreRuns}

pub world_along : (schedule : List Move) (p : Place) → (place_after schedule p).world ≡ world_after (events_along schedule p.others) p.world
world_along [] p = refl
world_along (m ∷ ms) p = grind (arith, nat_tests, world_along ms (moved m p))

joined : (first second : List Move) (p : Place) → place_after (first ++ second) p ≡ place_after second (place_after first p)
joined [] second p = refl
joined (m ∷ first) second p = joined first second (moved m p)

appended : (first second : List Move) (p : Place) → IsSchedule first p → IsSchedule second (place_after first p) → IsSchedule (first ++ second) p
appended [] second p one other = other
appended (m ∷ first) second p one other = (one.0, appended first second (moved m p) one.1 other)

pub schedules_are_runs : SchedulesAreRuns
schedules_are_runs = record { world = world_along; joined = joined; appended = appended }
