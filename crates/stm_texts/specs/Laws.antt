-- The laws of what is written.
use Rattle.std.specs.Prelude.{◌≡◌, ◌≤◌, List, [], ◌∷◌, length, false}
use Rattle.serde_json.specs.Data.{Data}
use Rattle.serde_json.specs.Written.{has_float}
use Rattle.stm_texts.specs.Grammar.{SpellsEvent, SpellsData}
use Rattle.stm_texts.specs.Opens.{IsOpening}
use Rattle.stm_texts.specs.declared.events.TheConstants.{MOST_EVENTS}
use Rattle.stm_texts.specs.declared.scenario.Scenario.{Scenario}
use Rattle.stm_events.specs.declared.event.WorldEvent.{WorldEvent}
use Rattle.stm_texts.specs.Writing.{written_scenario}

-- some data spell each of these events
abbrev pub AreSpelled : List WorldEvent → Type 0
AreSpelled [] = Unit {0}
AreSpelled (e ∷ es) = ((d : Data) × SpellsEvent d e) × AreSpelled es

-- a scenario whose events can be spelled is spelled by the data that it is written as
abbrev pub WrittenScenariosSpell : Type 0
WrittenScenariosSpell =
    (s : Scenario) → IsOpening s.opening → AreSpelled s.events → length s.events ≤ MOST_EVENTS → SpellsData (written_scenario s) s

abbrev pub ScenariosHaveNoFloat : Type 0
ScenariosHaveNoFloat = (s : Scenario) → has_float (written_scenario s) ≡ false
