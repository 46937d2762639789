-- What holds of reading: the first fault is that which reading answers, what was read is spelled, and what is spelled is read. Of a list, where
-- it holds of the elements, and of what may be null.
use Rattle.std.proofs.Common.{◌≡◌, ℕ, suc, List, [], ◌∷◌, map, Option, Some, None, Ok, refl, arith}
use Rattle.std.proofs.lemmas.Bool.Decides.{nat_tests}
use Rattle.serde_json.specs.Data.{Data, null, boolean, number, string, array, object, Items, no_items, item}
use Rattle.serde_json.specs.Find.{as_array}
use Rattle.serde_json.specs.View.{items_of}
use Rattle.stm_json.specs.declared.cause.Cause.TheVariants.{Shape}
use Rattle.stm_json.specs.Outcome.{Outcome, bad, ◌>>=◌}
use Rattle.stm_json.proofs.OutcomeLemmas.{bind_ok}
use Rattle.stm_json.specs.Faults.{Faults, first_of}
use Rattle.stm_json.specs.Parts.{SpellsEach, each_from, list_of}
use Rattle.stm_json.proofs.FaultLemmas.{fault_of, wrong_is, part_then, made}
use Rattle.stm_json.proofs.ListLemmas.{list_sound, each_reads}
use Rattle.stm_report_lines.specs.FirstFault.{or_null, each_of, list_of as list_faults}
use Rattle.stm_report_lines.specs.Grammar.{Spells, SpellsItems}
use Rattle.stm_report_lines.specs.LineData.{list}
use Rattle.stm_report_lines.specs.Parts.{or_null_of}

pub record Laws (A : Type 0) (read : Data → Outcome A) (spell : A → Data) (Fits : A → Type 0) (faults : List ℕ → Data → Faults) : Type 0 where
  pub reported : (p : List ℕ) (d : Data) → first_of (faults p d) ≡ fault_of p (read d)
  pub means : (d : Data) (x : A) → read d ≡ Ok x → Spells d (spell x) × Fits x
  pub reads : (d : Data) (x : A) → Spells d (spell x) → Fits x → read d ≡ Ok x

-- all that is spelled is read
abbrev pub AnyFits : {A : Type 0} → A → Type 0
AnyFits x = Unit {0}

-- ---- lists

module _ {A : Type 0} (read : Data → Outcome A) (spell : A → Data) (Fits : A → Type 0) (faults : List ℕ → Data → Faults)
    (L : Laws A read spell Fits faults) (AllFit : List A → Type 0) (none : AllFit [])
    (join : (x : A) (xs : List A) → Fits x × AllFit xs → AllFit (x ∷ xs))
    (split : (x : A) (xs : List A) → AllFit (x ∷ xs) → Fits x × AllFit xs) where
  abbrev SpellsOne : Data → A → Type 0
  SpellsOne d x = Spells d (spell x) × Fits x

  each_reported : (p : List ℕ) (index : ℕ) (ds : Items) → first_of (each_of faults p index ds) ≡ fault_of p (each_from read index ds)
  unfolding each_from
  each_reported p index no_items = refl
  each_reported p index (item d ds) = grind (arith, nat_tests, part_then, made, each_reported p (suc index) ds)

  list_reported : (p : List ℕ) (d : Data) → first_of (list_faults faults p d) ≡ fault_of p (list_of read (as_array d))
  list_reported p (array ds) = each_reported p 0 ds
  list_reported p null = wrong_is {A = List A} p Shape (bad Shape) refl
  list_reported p _ = wrong_is {A = List A} p Shape (bad Shape) refl

  each_spelled : (ds : Items) (xs : List A) → SpellsEach SpellsOne ds xs → SpellsItems ds (items_of (map spell xs)) × AllFit xs
  each_spelled ds [] is = (is, none)
  each_spelled ds (x ∷ xs) (d, rest, is, (s, fits), more) = grind (arith, nat_tests, each_spelled rest xs more)

  spelled_each : (ds : Items) (xs : List A) → SpellsItems ds (items_of (map spell xs)) → AllFit xs → SpellsEach SpellsOne ds xs
  spelled_each ds [] is fit = is
  spelled_each ds (x ∷ xs) (d, rest, is, s, more) fit =
      let f = split x xs fit in
      (d, rest, is, (s, f.0), spelled_each rest xs more f.1)

  list_means : (d : Data) (xs : List A) → list_of read (as_array d) ≡ Ok xs → Spells d (list (map spell xs)) × AllFit xs
  list_means d xs h =
      let s = list_sound read SpellsOne L.means d xs h in
      let e = each_spelled s.0 xs s.2 in
      ((s.0, s.1, e.0), e.1)

  list_reads : (d : Data) (xs : List A) → Spells d (list (map spell xs)) → AllFit xs → list_of read (as_array d) ≡ Ok xs
  list_reads d xs (ds, is, m) fit = rw is (each_reads read SpellsOne (λ e x s. L.reads e x s.0 s.1) 0 ds xs (spelled_each ds xs m fit))

  pub list_laws : Laws (List A) (λ d. list_of read (as_array d)) (λ xs. list (map spell xs)) AllFit (list_faults faults)
  list_laws = record { reported = list_reported; means = list_means; reads = list_reads }

-- ---- null for what is absent

module _ {A : Type 0} (read : Data → Outcome A) (spell : A → Data) (faults : List ℕ → Data → Faults) (L : Laws A read spell AnyFits faults)
    (spell_or_null : Option A → Data) (absent : spell_or_null None ≡ null) (present : (x : A) → spell_or_null (Some x) ≡ spell x)
    (no_null : read null ≡ bad Shape) where
  present_reported : (p : List ℕ) (d : Data) → first_of (faults p d) ≡ fault_of p (read d >>= λ x. Ok (Some x))
  present_reported p d = made p (read d) (λ (x : A). Some x) (faults p d) (L.reported p d)

  or_null_reported : (p : List ℕ) (d : Data) → first_of (or_null faults p d) ≡ fault_of p (or_null_of read d)
  or_null_reported p null = refl
  or_null_reported p (boolean b) = present_reported p (boolean b)
  or_null_reported p (number n) = present_reported p (number n)
  or_null_reported p (string s) = present_reported p (string s)
  or_null_reported p (array ds) = present_reported p (array ds)
  or_null_reported p (object ms) = present_reported p (object ms)

  present_means : (d : Data) (o : Option A) → (read d >>= λ x. Ok (Some x)) ≡ Ok o → Spells d (spell_or_null o)
  present_means d o h = grind (arith, nat_tests, bind_ok)

  or_null_means : (d : Data) (o : Option A) → or_null_of read d ≡ Ok o → Spells d (spell_or_null o)
  or_null_means null o h = grind (arith, nat_tests)
  or_null_means (boolean b) o h = present_means (boolean b) o h
  or_null_means (number n) o h = present_means (number n) o h
  or_null_means (string s) o h = present_means (string s) o h
  or_null_means (array ds) o h = present_means (array ds) o h
  or_null_means (object ms) o h = present_means (object ms) o h

  or_null_reads : (d : Data) (o : Option A) → Spells d (spell_or_null o) → or_null_of read d ≡ Ok o
  or_null_reads d o s = grind (arith, nat_tests)

  pub or_null_laws : Laws (Option A) (λ d. or_null_of read d) spell_or_null AnyFits (or_null faults)
  or_null_laws = grind (arith, nat_tests, or_null_reported, or_null_means, or_null_reads)
