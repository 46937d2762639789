-- The laws of what is written.
use Rattle.std.proofs.Common.{List, [], ◌∷◌, ◌++◌, map, Option, refl, arith}
use Rattle.std.proofs.lemmas.Bool.Decides.{nat_tests}
use Rattle.serde_json.specs.View.{items_of}
use Rattle.stm_texts.specs.Grammar.{SpellsEvent, SpellsElements}
use Rattle.stm_texts.specs.Opens.{IsOpening}
use Rattle.stm_json.specs.Parts.{SpellsEach}
use Rattle.stm_txn.specs.Standing.{Setup}
use Rattle.stm_events.specs.declared.event.WorldEvent.{WorldEvent}
use Rattle.stm_texts.specs.Laws.{AreSpelled, WrittenScenariosSpell}
use Rattle.stm_texts.specs.Writing.{written_event, opening_elements}
use Rattle.stm_texts.proofs.WrittenSpells.{event_spells}

each_spells : (es : List WorldEvent) → AreSpelled es → SpellsEach SpellsEvent (items_of (map written_event es)) es
each_spells [] all = refl
each_spells (e ∷ es) ((d, s), others) = grind (arith, nat_tests, event_spells, each_spells es others)

elements_spell : (o : Option Setup) (es : List WorldEvent) → IsOpening o → AreSpelled es
    → SpellsElements (items_of (opening_elements o ++ map written_event es)) o es
elements_spell o es opens all = grind (arith, nat_tests, each_spells)

pub scenarios_spell : WrittenScenariosSpell
scenarios_spell s opens all few = grind (arith, nat_tests, elements_spell)
