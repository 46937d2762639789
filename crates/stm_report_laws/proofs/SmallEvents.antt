-- The numbers that a scenario asks for are within 64 bits, and it has not too many events.
use Rattle.std.proofs.Common.{◌≡◌, ℕ, ◌≤◌, List, [], ◌∷◌, length, Option, Ok, arith}
use Rattle.std.proofs.lemmas.Bool.Decides.{nat_tests}
use Rattle.serde_json.specs.Data.{Data, Items}
use Rattle.stm_history.specs.declared.revisions.TheConstants.{HIGHEST_REVISION}
use Rattle.stm_json.specs.Parts.{SpellsEach}
use Rattle.stm_events.specs.declared.event.WorldEvent.{WorldEvent}
use Rattle.stm_txn.specs.Standing.{Setup}
use Rattle.stm_texts.specs.declared.scenario.Scenario.{Scenario}
use Rattle.stm_texts.specs.declared.events.TheConstants.{MOST_EVENTS}
use Rattle.stm_texts.specs.Grammar.{SpellsEvent, SpellsElements}
use Rattle.stm_texts.specs.Opens.{setup_of}
use Rattle.stm_texts.specs.Reading.{scenario_in}
use Rattle.stm_texts.proofs.GrammarSound.{scenario_sound}
use Rattle.stm_report_laws.proofs.SmallReplies.{EventAsksFew, EventsAskFew}

event_asks_few : (d : Data) (event : WorldEvent) → SpellsEvent d event → EventAsksFew event
event_asks_few d event spelled = grind (arith, nat_tests)

each_asks_few : (ds : Items) (events : List WorldEvent) → SpellsEach SpellsEvent ds events → EventsAskFew events
each_asks_few ds [] spelled = tt
each_asks_few ds (e ∷ es) (a, rest, is, one, others) = (event_asks_few a e one, each_asks_few rest es others)

-- what a scenario asks
pub record AsksFew (s : Scenario) : Type 0 where
  pub opens : (setup_of s.opening).revision ≤ HIGHEST_REVISION
  pub events : EventsAskFew s.events
  pub count : length s.events ≤ MOST_EVENTS

elements_few : (ds : Items) (o : Option Setup) (events : List WorldEvent) → SpellsElements ds o events →
    ((setup_of o).revision ≤ HIGHEST_REVISION) × EventsAskFew events
elements_few ds o events spelled = grind (arith, nat_tests, each_asks_few)

-- a scenario that was read
pub scenario_asks_few : (bytes : List ℕ) (s : Scenario) → scenario_in bytes ≡ Ok s → AsksFew s
scenario_asks_few bytes s reads = grind (arith, nat_tests, scenario_sound, elements_few)
