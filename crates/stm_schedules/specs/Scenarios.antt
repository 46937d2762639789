-- A scenario whose interleavings are looked at: what is run first, and what the others bring.
use Rattle.std.specs.Prelude.{◌≡◌, Bool, true, false, ◌||◌, if◌then◌else◌, List, [], ◌∷◌, ◌++◌, map}
use Rattle.stm_program.specs.declared.level.Level.{Level}
use Rattle.stm_events.specs.declared.event.WorldEvent.{WorldEvent}
use Rattle.stm_events.specs.declared.event.WorldEvent.TheVariants.{Start}
use Rattle.stm_world.specs.World.{opened, world_after}
use Rattle.stm_schedules.specs.declared.moves.Move.{Move}
use Rattle.stm_schedules.specs.Places.{Place}
use Rattle.stm_schedules.specs.Schedules.{place_after, events_along}
use Rattle.stm_txn.specs.Standing.{Setup}

abbrev pub is_start : WorldEvent → Bool
is_start (Start program level limit) = true
is_start other = false

abbrev pub has_start : List WorldEvent → Bool
has_start [] = false
has_start (e ∷ es) = is_start e || has_start es

-- the events up to and including the last start, none where there is no start
abbrev pub up_to_last_start : List WorldEvent → List WorldEvent
up_to_last_start [] = []
up_to_last_start (e ∷ es) = if has_start (e ∷ es) then e ∷ up_to_last_start es else []

-- the events after the last start, all where there is no start
abbrev pub after_last_start : List WorldEvent → List WorldEvent
after_last_start [] = []
after_last_start (e ∷ es) = if has_start (e ∷ es) then after_last_start es else e ∷ es

-- the place from which schedules of a scenario go: the events up to the last start are run, and the others bring those after it
abbrev pub begun : Setup → List WorldEvent → Place
begun start events = record { world = world_after (up_to_last_start events) (opened start); others = after_last_start events }

-- the scenario with the events of a schedule in the place of those after the last start
abbrev pub with_schedule : List WorldEvent → List Move → List WorldEvent
with_schedule events schedule = up_to_last_start events ++ events_along schedule (after_last_start events)

-- a start at this level, and each other event as it is
abbrev pub at_level : Level → WorldEvent → WorldEvent
at_level level (Start program other limit) = Start program level limit
at_level level event = event

-- ---- laws

pub record ScenariosAreSplit : Type 0 where
  -- the two parts are the scenario
  pub both : (events : List WorldEvent) → up_to_last_start events ++ after_last_start events ≡ events
  -- no start stands after the last one
  pub no_start_after : (events : List WorldEvent) → has_start (after_last_start events) ≡ false
  -- a scenario with the events of a schedule leads to where the schedule leads
  pub replayed : (start : Setup) (events : List WorldEvent) (schedule : List Move)
      → world_after (with_schedule events schedule) (opened start) ≡ (place_after schedule (begun start events)).world
  -- starts at another level stand where they stood
  pub levels : (level : Level) (events : List WorldEvent)
      → up_to_last_start (map (at_level level) events) ≡ map (at_level level) (up_to_last_start events)
  pub levels_after : (level : Level) (events : List WorldEvent) → after_last_start (map (at_level level) events) ≡ after_last_start events
