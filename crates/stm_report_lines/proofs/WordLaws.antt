-- Words that are looked up in a list: what is found has this word, and nothing is found exactly where the word is no one's.
use Rattle.std.proofs.Common.{◌≡◌, ℕ, List, [], ◌∷◌, map, Bool, true, false, cond, Option, Some, None, option_map, refl, arith}
use Rattle.std.proofs.lemmas.Slice.Eq.{bytes_eq-Decides}
use Rattle.std.proofs.lemmas.Bool.Decides.{nat_tests}
use Rattle.stm_json.specs.declared.cause.Cause.TheVariants.{Shape}
use Rattle.stm_json.specs.Outcome.{bad}
use Rattle.stm_steps.specs.declared.fault.Fault.{Fault}
use Rattle.stm_meaning.specs.Faults.{fault_name}
use Rattle.stm_json.specs.Faults.{Sort, first_of, wrong, is_word_of, word_faults, sorts_of}
use Rattle.stm_json.specs.Parts.{on_text, same}
use Rattle.stm_json.proofs.FaultLemmas.{fault_of, wrong_is}
use Rattle.stm_events.specs.declared.refusal.EventRefusal.{EventRefusal}
use Rattle.stm_events.specs.Names.{refusal_name}
use Rattle.stm_report_lines.specs.Parts.{or_shape}
use Rattle.stm_report_lines.specs.Words.{named, fault_words, refusal_words}

-- ---- any list of words

abbrev pub texts : {W : Type 0} → List (List ℕ × W) → List (List ℕ)
texts rows = map (λ r. r.0) rows

-- each word is the text of what it stands for
abbrev pub are_texts : {W : Type 0} → (W → List ℕ) → List (List ℕ × W) → Bool
are_texts text [] = true
are_texts text (r ∷ rows) = cond (same r.0 (text r.1)) (are_texts text rows) false

both : (b c : Bool) → cond b c false ≡ true → (b ≡ true) × (c ≡ true)
both b c h = grind (arith, nat_tests)

found_by : {W : Type 0} (text : W → List ℕ) (w t : List ℕ) (b : Bool) (y x : W) (rest : Option W) → (b ≡ true → w ≡ t) → t ≡ text y
    → (rest ≡ Some x → w ≡ text x) → cond b (Some y) rest ≡ Some x → w ≡ text x
found_by text w t b y x rest found is others h = grind (arith, nat_tests)

pub named-is : {W : Type 0} (text : W → List ℕ) (rows : List (List ℕ × W)) (w : List ℕ) (x : W) → are_texts text rows ≡ true → named rows w ≡ Some x
    → w ≡ text x
named-is text [] w x are h = cc
named-is text (r ∷ rows) w x are h =
    let b = both (same r.0 (text r.1)) (are_texts text rows) are in
    found_by text w r.0 (same w r.0) r.1 x (named rows w) (bytes_eq-Decides w r.0).0 ((bytes_eq-Decides r.0 (text r.1)).0 b.0)
    (named-is text rows w x b.1) h

word_tested : {W : Type 0} (p : List ℕ) (b rest : Bool) (y : W) (o : Option W)
    → first_of (cond rest [] (wrong p Shape)) ≡ fault_of p (or_shape o)
    → first_of (cond (cond b true rest) [] (wrong p Shape)) ≡ fault_of p (or_shape (cond b (Some y) o))
word_tested p b rest y o h = grind (arith, nat_tests)

pub word_reported : {W : Type 0} (p : List ℕ) (rows : List (List ℕ × W)) (w : List ℕ)
    → first_of (cond (is_word_of (texts rows) w) [] (wrong p Shape)) ≡ fault_of p (or_shape (named rows w))
word_reported {W} p [] w = wrong_is {A = W} p Shape (bad Shape) refl
word_reported p (r ∷ rows) w = word_tested p (same w r.0) (is_word_of (texts rows) w) r.1 (named rows w) (word_reported p rows w)

pub name_reported : {W : Type 0} (p : List ℕ) (rows : List (List ℕ × W)) (o : Option (List ℕ))
    → first_of (word_faults (texts rows) p o) ≡ fault_of p (on_text (λ w. or_shape (named rows w)) o)
name_reported p rows (Some w) = word_reported p rows w
name_reported {W} p rows None = wrong_is {A = W} p Shape (bad Shape) refl

-- the sorts after a word, in a table that has them for each word of a list
sorts_tested : {W : Type 0} (sorts : W → List Sort) (b : Bool) (x : W) (o : Option W) (rest : Option (List Sort)) → rest ≡ option_map sorts o
    → cond b (Some (sorts x)) rest ≡ option_map sorts (cond b (Some x) o)
sorts_tested sorts b x o rest h = grind (arith, nat_tests)

pub sorts_named : {W : Type 0} (sorts : W → List Sort) (rows : List (List ℕ × W)) (w : List ℕ)
    → sorts_of (map (λ r. (r.0, sorts r.1)) rows) w ≡ option_map sorts (named rows w)
sorts_named sorts [] w = refl
sorts_named sorts (r ∷ rows) w = grind (arith, nat_tests, sorts_tested, sorts_named sorts rows w)

-- ---- faults

pub fault_named-text : (f : Fault) → named fault_words (fault_name f) ≡ Some f
fault_named-text f = grind (arith, nat_tests)

pub fault_named-is : (w : List ℕ) (f : Fault) → named fault_words w ≡ Some f → w ≡ fault_name f
fault_named-is w f h = named-is fault_name fault_words w f refl h

-- ---- refusals

pub refusal_named-text : (c : EventRefusal) → named refusal_words (refusal_name c) ≡ Some c
refusal_named-text c = grind (arith, nat_tests)

pub refusal_named-is : (w : List ℕ) (c : EventRefusal) → named refusal_words w ≡ Some c → w ≡ refusal_name c
refusal_named-is w c h = named-is refusal_name refusal_words w c refl h
