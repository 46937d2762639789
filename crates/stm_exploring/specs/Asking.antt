-- What a search is asked: a scenario without its steps, with a level for its starts.
use Rattle.std.specs.Prelude.{List, filter, map, not, Option, None, Some}
use Rattle.stm_program.specs.declared.level.Level.{Level}
use Rattle.stm_schedules.specs.declared.moves.Move.{Move}
use Rattle.stm_schedules.specs.Outcomes.{Ends, ends_begun}
use Rattle.stm_schedules.specs.Places.{Place}
use Rattle.stm_schedules.specs.Scenarios.{at_level, begun, with_schedule}
use Rattle.stm_serial_search.specs.Started.{is_step}
use Rattle.stm_texts.specs.declared.scenario.Scenario.{Scenario}
use Rattle.stm_texts.specs.Opens.{setup_of}
use Rattle.stm_events.specs.declared.event.WorldEvent.{WorldEvent}
use Rattle.stm_txn.specs.Standing.{Setup}

-- ---- which scenario is asked about

-- the events that are no steps: the search makes its own
abbrev pub without_steps : List WorldEvent → List WorldEvent
without_steps events = filter (λ e. not (is_step e)) events

-- each start at the level that is named, where one is
abbrev pub events_at : Option Level → List WorldEvent → List WorldEvent
events_at None events = events
events_at (Some level) events = map (at_level level) events

-- the scenario that is asked about
abbrev pub asked : Option Level → Scenario → Scenario
asked level s = record { opening = s.opening; events = events_at level (without_steps s.events) }

-- ---- where its schedules begin, and what they make of it

abbrev pub opening_of : Scenario → Setup
opening_of s = setup_of s.opening

abbrev pub place_of : Scenario → Place
place_of s = begun (opening_of s) s.events

-- what is known there of the runners' ends
abbrev pub ends_of : Scenario → Ends
ends_of s = ends_begun (opening_of s) s.events

-- the scenario with the events of a schedule in the place of those after the last start
abbrev pub scheduled : Scenario → List Move → Scenario
scheduled s schedule = record { opening = s.opening; events = with_schedule s.events schedule }
