-- The law of what is printed of a schedule.
use Rattle.std.specs.Prelude.{◌≡◌, ◌≤◌, ℕ, List, [], ◌∷◌, length, Option, Ok}
use Rattle.stm_history.specs.declared.revisions.TheConstants.{HIGHEST_NUMBER}
use Rattle.stm_program.specs.declared.level.Level.{Level}
use Rattle.stm_texts.specs.Writing.{written_scenario}
use Rattle.stm_schedules.specs.declared.moves.Move.{Move}
use Rattle.stm_schedules.specs.declared.moves.Move.TheVariants.{Step, Other}
use Rattle.stm_texts.specs.Grammar.{SpellsData}
use Rattle.stm_texts.specs.declared.events.TheConstants.{MOST_EVENTS}
use Rattle.stm_texts.specs.declared.scenario.Scenario.{Scenario}
use Rattle.stm_exploring.specs.Asking.{scheduled}
use Rattle.stm_exploring.specs.Exploring.{asked_in}

-- the runners' numbers are such as a scenario may have
abbrev pub AreNumbered : List Move → Type 0
AreNumbered [] = Unit {0}
AreNumbered (Step runner ∷ ms) = (runner ≤ HIGHEST_NUMBER) × AreNumbered ms
AreNumbered (Other ∷ ms) = AreNumbered ms

-- What is printed of a schedule after a broken rule spells the scenario that was read with the events of the schedule in it, if it has not too
-- many events.
abbrev pub SchedulesSpell : Type 0
SchedulesSpell =
    (level : Option Level) (bytes : List ℕ) (s : Scenario) (schedule : List Move) → asked_in level bytes ≡ Ok s → AreNumbered schedule
    → length (scheduled s schedule).events ≤ MOST_EVENTS → SpellsData (written_scenario (scheduled s schedule)) (scheduled s schedule)
