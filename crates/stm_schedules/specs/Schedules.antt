-- Schedules: moves one after another, each of which can be made where it is made.
use Rattle.std.specs.Prelude.{◌≡◌, ◌⊎◌, ◌<◌, ◌≤◌, ℕ, List, [], ◌∷◌, ◌++◌, length, Contains}
use Rattle.stm_events.specs.declared.event.WorldEvent.{WorldEvent}
use Rattle.stm_world.specs.World.{world_after}
use Rattle.stm_schedules.specs.declared.moves.Move.{Move}
use Rattle.stm_schedules.specs.declared.moves.Move.TheVariants.{Step as StepOf, Other}
use Rattle.stm_schedules.specs.Places.{Place, moves, event_of, left_after, moved}

-- the place that moves lead to
abbrev pub place_after : List Move → Place → Place
place_after [] p = p
place_after (m ∷ ms) p = place_after ms (moved m p)

-- each of these moves can be made where it is made
abbrev pub IsSchedule : List Move → Place → Type 0
IsSchedule [] p = Unit {0}
IsSchedule (m ∷ ms) p = Contains (moves p) m × IsSchedule ms (moved m p)

-- a schedule after which no move can be made
abbrev pub IsWhole : List Move → Place → Type 0
IsWhole schedule p = IsSchedule schedule p × (moves (place_after schedule p) ≡ [])

-- the events of these moves
abbrev pub events_along : List Move → List WorldEvent → List WorldEvent
events_along [] others = []
events_along (m ∷ ms) others = event_of m others ++ events_along ms (left_after m others)

-- no schedule has more moves, and some schedule has as many
pub record IsLongest (n : ℕ) (p : Place) : Type 0 where
  pub none_longer : (schedule : List Move) → IsSchedule schedule p → length schedule ≤ n
  pub one_as_long : (schedule : List Move) × IsSchedule schedule p × (length schedule ≡ n)

-- ---- the order of schedules

-- a move stands before another: runners by number, and then the others
abbrev pub IsBefore : Move → Move → Type 0
IsBefore (StepOf i) (StepOf j) = i < j
IsBefore (StepOf i) Other = Unit {0}
IsBefore Other m = ⊥

-- moves stand before as many others by the first move in which they differ
abbrev pub AreBefore : List Move → List Move → Type 0
AreBefore [] others = ⊥
AreBefore (m ∷ ms) [] = ⊥
AreBefore (m ∷ ms) (o ∷ os) = IsBefore m o ⊎ ((m ≡ o) × AreBefore ms os)

-- a schedule is looked at before another: the shorter one, and of those of one length the one whose moves stand before
abbrev pub IsEarlier : List Move → List Move → Type 0
IsEarlier one other = (length one < length other) ⊎ ((length one ≡ length other) × AreBefore one other)

-- ---- laws

-- The world that moves lead to is that of their events, and schedules can stand one after another.
pub record SchedulesAreRuns : Type 0 where
  pub world : (schedule : List Move) (p : Place) → (place_after schedule p).world ≡ world_after (events_along schedule p.others) p.world
  pub joined : (first second : List Move) (p : Place) → place_after (first ++ second) p ≡ place_after second (place_after first p)
  pub appended : (first second : List Move) (p : Place) → IsSchedule first p → IsSchedule second (place_after first p) → IsSchedule (first ++ second) p
