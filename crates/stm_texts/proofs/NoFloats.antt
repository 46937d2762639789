-- No event or scenario is written with a float.
use Rattle.std.proofs.Common.{◌≡◌, false, List, [], ◌∷◌, ◌++◌, map, Option, refl, arith}
use Rattle.serde_json.specs.Data.{Data}
use Rattle.serde_json.specs.View.{items_of}
use Rattle.serde_json.specs.Written.{has_float, items_have_float}
use Rattle.stm_program_json.proofs.NoFloats.{program-no_float}
use Rattle.std.proofs.lemmas.Bool.Decides.{nat_tests}
use Rattle.stm_txn.specs.Standing.{Setup}
use Rattle.stm_texts.specs.declared.scenario.Scenario.{Scenario}
use Rattle.stm_outcome.specs.declared.txn.Compare.{Compare}
use Rattle.stm_outcome.specs.declared.txn.Txn.{Txn}
use Rattle.stm_events.specs.declared.event.WorldEvent.{WorldEvent}
use Rattle.stm_texts.specs.Writing.{written_compare, written_txn, written_event, opening_elements, written_scenario}

-- ---- transactions

each-no_float : {A : Type 0} (write : A → Data) → ((x : A) → has_float (write x) ≡ false) → (xs : List A) → items_have_float (items_of (map write xs)) ≡ false
each-no_float write one [] = refl
each-no_float write one (x ∷ xs) = rw (one x) (each-no_float write one xs)

compare-no_float : (c : Compare) → has_float (written_compare c) ≡ false
compare-no_float c = grind (arith, nat_tests)

txn-no_float : (t : Txn) → has_float (written_txn t) ≡ false
txn-no_float t = grind (arith, nat_tests, each-no_float, compare-no_float)

-- ---- events

pub event-no_float : (e : WorldEvent) → has_float (written_event e) ≡ false
event-no_float e = grind (arith, nat_tests, program-no_float, txn-no_float)

-- ---- scenarios

elements-no_float : (o : Option Setup) (es : List WorldEvent) → items_have_float (items_of (opening_elements o ++ map written_event es)) ≡ false
elements-no_float o es = grind (arith, nat_tests, each-no_float, event-no_float)

pub scenario-no_float : (s : Scenario) → has_float (written_scenario s) ≡ false
scenario-no_float s = elements-no_float s.opening s.events
