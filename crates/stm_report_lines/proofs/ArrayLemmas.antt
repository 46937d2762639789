-- Arrays of a word and parts, and of a number, a word and parts: what they spell, and what their spelling says of them. Their elements.
use Rattle.std.proofs.Common.{◌≡◌, ℕ, suc, List, [], ◌∷◌, length, None, Ok, refl, ap, arith}
use Rattle.std.proofs.lemmas.Bool.Decides.{nat_tests}
use Rattle.serde_json.specs.Data.{Data, string, array, Items, item}
use Rattle.serde_json.specs.Events.{items_len}
use Rattle.serde_json.specs.Find.{as_str}
use Rattle.serde_json.specs.View.{items_of, items_view}
use Rattle.serde_json.specs.declared.value.Value.{Value}
use Rattle.stm_report_lines.specs.Grammar.{Spells, SpellsItems}
use Rattle.stm_report_lines.specs.LineData.{list, whole, word, numbered}
use Rattle.stm_report_lines.specs.Parts.{number_of}
use Rattle.stm_report_lines.proofs.PartLaws.{number_reads, number_no_text}

-- ---- a word and parts

abbrev pub worded_array : List ℕ → Items → Data
worded_array w ds = array (item (string w) ds)

pub worded_spells : (ds : Items) (w : List ℕ) (parts : List Data) → SpellsItems ds (items_of parts) → Spells (worded_array w ds) (list (word w
    ∷ parts))
worded_spells ds w parts more = (item (string w) ds, refl, (string w, ds, refl, refl, more))

pub worded_shape : (d : Data) (w : List ℕ) (parts : List Data) → Spells d (list (word w ∷ parts))
    → (ds : Items) × (d ≡ worded_array w ds) × SpellsItems ds (items_of parts)
worded_shape d w parts (all, i, (v, rest, i0, s0, more)) = (rest, rw (i, i0, s0) refl, more)

-- ---- a number, a word and parts

abbrev pub numbered_array : Data → List ℕ → Items → Data
numbered_array n w ds = array (item n (item (string w) ds))

pub numbered_spells : (n : Data) (ds : Items) (x : ℕ) (w : List ℕ) (parts : List Data) → Spells n (whole x) → SpellsItems ds (items_of parts)
    → Spells (numbered_array n w ds) (numbered x w parts)
numbered_spells n ds x w parts of_number more = grind (arith, nat_tests)

pub numbered_shape : (d : Data) (x : ℕ) (w : List ℕ) (parts : List Data) → Spells d (numbered x w parts)
    → (n : Data) × (ds : Items) × (d ≡ numbered_array n w ds) × (number_of n ≡ Ok x) × (as_str n ≡ None) × SpellsItems ds (items_of parts)
numbered_shape d x w parts (all, i, (n, r0, i0, s0, (v, r1, i1, s1, more))) =
    (n, r1, rw (i, i0, i1, s1) refl, number_reads n x s0, number_no_text n x s0, more)

-- ---- the number of elements

pub length_view : (values : List Value) → items_len (items_view values) ≡ length values
length_view [] = refl
length_view (v ∷ values) = ap suc (length_view values)
