-- What is made of rows of parts: of an array of them alone, and of one that begins with a word. That the faults are those that reading answers,
-- that what was read is spelled, and that what is spelled is read, is proved once, whatever the parts are.
use Rattle.std.proofs.Common.{◌≡◌, ℕ, ◌+◌, List, [], ◌∷◌, length, Bool, true, false, cond, Option, Some, None, Ok, refl, sym, ap, subst, ◌∙◌, arith}
use Rattle.std.proofs.lemmas.Slice.Eq.{bytes_eq-Decides}
use Rattle.std.proofs.lemmas.Bool.Decides.{nat_tests}
use Rattle.serde_json.specs.Data.{Data, null, boolean, number, string, array, object, Items, item}
use Rattle.serde_json.specs.View.{items_of}
use Rattle.stm_json.specs.declared.cause.Cause.TheVariants.{Shape}
use Rattle.stm_json.specs.Outcome.{Outcome, bad, ◌>>=◌}
use Rattle.stm_json.specs.Parts.{same}
use Rattle.stm_json.specs.Faults.{Sort, first_of, wrong, Table, sorts_of, is_count, parts_faults, sorted_faults, worded_faults}
use Rattle.stm_json.proofs.FaultLemmas.{fault_of, wrong_is}
use Rattle.stm_report_lines.specs.FirstFault.{plain_faults}
use Rattle.stm_report_lines.specs.Grammar.{Spells, SpellsItems}
use Rattle.stm_report_lines.specs.LineData.{list, word}
use Rattle.stm_report_lines.specs.Parts.{or_shape, word_at, exactly}
use Rattle.stm_report_lines.proofs.ArrayLemmas.{worded_array, worded_spells, worded_shape}
use Rattle.stm_report_lines.proofs.ReadLaws.{Laws, AnyFits}
use Rattle.stm_report_lines.proofs.Rows.{Row, Answers, onto, counted_reported, counted_ok, exactly_is}

-- ---- what is made of a row

-- parts from an index on, of which there have to be as many as are left, what is made of them, and how it is read
pub record Form (X Y : Type 0) (i : ℕ) : Type 1 where
  pub row : Row X
  pub make : X → Y
  pub read : Data → Outcome Y
  pub same : (d : Data) → read d ≡ (exactly (i + length row.sorts) d >>= λ u. row.read Y i make d)

abbrev pub form : {X Y : Type 0} (i : ℕ) (row : Row X) (make : X → Y) (read : Data → Outcome Y)
    → ((d : Data) → read d ≡ (exactly (i + length row.sorts) d >>= λ u. row.read Y i make d)) → Form X Y i
form i row make read same = record { row = row; make = make; read = read; same = same }

pub exactly_maps : {Y Z : Type 0} (o : Outcome (Unit {0})) (y : Outcome Y) (z : Outcome Z) (g : Y → Z) → (y >>= λ x. Ok (g x)) ≡ z
    → ((o >>= λ u. y) >>= λ x. Ok (g x)) ≡ (o >>= λ u. z)
exactly_maps o y z g same = grind (arith, nat_tests)

-- the same, and something made of it
abbrev pub also_made : {X Y Z : Type 0} (i : ℕ) → Form X Y i → (Y → Z) → Form X Z i
also_made {X} {Y} {Z} i F g = record {
  row = F.row;
  make = λ x. g (F.make x);
  read = λ d. F.read d >>= λ y. Ok (g y);
  same = λ d.
      ap (λ (o : Outcome Y). o >>= λ y. Ok (g y)) (F.same d)
      ∙ exactly_maps (exactly (i + length F.row.sorts) d) (F.row.read Y i F.make d) (F.row.read Z i (λ x. g (F.make x)) d) g (F.row.maps Y Z i F.make g d);
}

module _ {X Y : Type 0} (before : List Data) (F : Form X Y (length before)) (ds : Items) where
  form_is : F.read (array (onto before ds)) ≡ cond (is_count F.row.sorts ds) (F.row.read Y (length before) F.make (array (onto before ds))) (bad Shape)
  form_is = F.same (array (onto before ds)) ∙ exactly_is before F.row.sorts ds (F.row.read Y (length before) F.make (array (onto before ds)))

  pub form_reported : (p : List ℕ) → first_of (cond (is_count F.row.sorts ds) (parts_faults p (length before) F.row.sorts ds) (wrong p Shape))
      ≡ fault_of p (F.read (array (onto before ds)))
  form_reported p = grind (arith, nat_tests, counted_reported, onto, fault_of, form_is)

  pub form_means : (y : Y) → F.read (array (onto before ds)) ≡ Ok y → (x : X) × (F.make x ≡ y) × SpellsItems ds (items_of (F.row.spell x)) × F.row.Fits x
  form_means y h = grind (arith, nat_tests, counted_ok, onto, form_is)

  pub form_reads : (x : X) → SpellsItems ds (items_of (F.row.spell x)) → F.row.Fits x → F.read (array (onto before ds)) ≡ Ok (F.make x)
  form_reads x s fits = grind (arith, nat_tests, form_is, onto)

-- ---- an array of such parts alone

module _ {X Y : Type 0} (F : Form X Y 0) (spell : Y → Data) (parts : Y → X) (spelled : (x : X) → spell (F.make x) ≡ list (F.row.spell x))
    (whole : (y : Y) → F.make (parts y) ≡ y) (fits : (y : Y) → F.row.Fits (parts y)) where
  array_reported : (p : List ℕ) (d : Data) → first_of (plain_faults F.row.sorts p d) ≡ fault_of p (F.read d)
  array_reported p (array ds) = form_reported [] F ds p
  array_reported p null = wrong_is p Shape (F.read null) (F.same null)
  array_reported p (boolean b) = wrong_is p Shape (F.read (boolean b)) (F.same (boolean b))
  array_reported p (number n) = wrong_is p Shape (F.read (number n)) (F.same (number n))
  array_reported p (string s) = wrong_is p Shape (F.read (string s)) (F.same (string s))
  array_reported p (object ms) = wrong_is p Shape (F.read (object ms)) (F.same (object ms))

  -- what is read is an array
  array_there : (d : Data) (y : Y) → (exactly (0 + length F.row.sorts) d >>= λ u. F.row.read Y 0 F.make d) ≡ Ok y → (ds : Items) × (d ≡ array ds)
  array_there (array ds) y h = (ds, refl)
  array_there null y h = cc
  array_there _ y h = cc

  array_means : (d : Data) (y : Y) → F.read d ≡ Ok y → Spells d (spell y)
  array_means d y h =
      let a = array_there d y (sym (F.same d) ∙ h) in
      let m = form_means [] F a.0 y (subst (λ (e : Data). F.read e ≡ Ok y) a.1 h) in
      subst (λ (z : Y). Spells d (spell z)) m.1 (subst (λ (s : Data). Spells d s) (sym (spelled m.0)) (a.0, a.1, m.2))

  array_reads : (d : Data) (y : Y) → Spells d (list (F.row.spell (parts y))) → F.read d ≡ Ok y
  array_reads d y (ds, is, m) = rw is (form_reads [] F ds (parts y) m (fits y) ∙ ap (λ (z : Y). Ok z) (whole y))

  pub array_laws : Laws Y F.read spell AnyFits (plain_faults F.row.sorts)
  array_laws = record {
    reported = array_reported;
    means = λ d y h. (array_means d y h, tt);
    reads = λ d y s fit.
        array_reads d y (subst (λ (e : Data). Spells d e) (ap spell (sym (whole y)) ∙ spelled (parts y)) s);
  }

-- ---- an array of a word and such parts

module _ {X Y : Type 0} (F : Form X Y 1) (w : List ℕ) where
  pub after_reads : (read : Data → Outcome Y) → ((ds : Items) → read (worded_array w ds) ≡ F.read (worded_array w ds)) → (d : Data) (x : X)
      → Spells d (list (word w ∷ F.row.spell x)) → F.row.Fits x → read d ≡ Ok (F.make x)
  after_reads read is d x s fits =
      let q = worded_shape d w (F.row.spell x) s in
      ap read q.1 ∙ is q.0 ∙ form_reads (string w ∷ []) F q.0 x q.2 fits

  -- what was made of it fits
  pub after_means : (spell : Y → Data) (Fits : Y → Type 0) → ((x : X) → spell (F.make x) ≡ list (word w ∷ F.row.spell x))
      → ((x : X) → F.row.Fits x → Fits (F.make x)) → (ds : Items) (y : Y) → F.read (worded_array w ds) ≡ Ok y
      → Spells (worded_array w ds) (spell y) × Fits y
  after_means spell Fits spelled fits ds y h =
      let m = form_means (string w ∷ []) F ds y h in
      let s = worded_spells ds w (F.row.spell m.0) m.2 in
      subst (λ (z : Y). Spells (worded_array w ds) (spell z) × Fits z) m.1
      (subst (λ (e : Data). Spells (worded_array w ds) e) (sym (spelled m.0)) s, fits m.0 m.3)

-- Some words, each with the parts after it, and what is made of them. Each is read of the whole array, of which the word is the first element.
pub record Words (Y : Type 0) (spell : Y → Data) (Fits : Y → Type 0) : Type 0 where
  pub sorts : List ℕ → Option (List Sort)
  pub read : List ℕ → Data → Outcome Y
  pub reported : (p w : List ℕ) (ds : Items) → first_of (sorted_faults p (sorts w) ds) ≡ fault_of p (read w (worded_array w ds))
  pub means : (w : List ℕ) (ds : Items) (y : Y) → read w (worded_array w ds) ≡ Ok y → Spells (worded_array w ds) (spell y) × Fits y

pub no_read : {Y : Type 0} (spell : Y → Data) (Fits : Y → Type 0) (w : List ℕ) (ds : Items) (y : Y) → Answers {Y = Y} (bad Shape) y
    → Spells (worded_array w ds) (spell y) × Fits y
no_read spell Fits w ds y h = cc

abbrev pub no_word : {Y : Type 0} (spell : Y → Data) (Fits : Y → Type 0) → Words Y spell Fits
no_word {Y} spell Fits = record {
  sorts = λ w. None;
  read = λ w d. bad Shape;
  reported = λ p w ds. wrong_is {A = Y} p Shape (bad Shape) refl;
  means = λ w ds y h. no_read spell Fits w ds y h;
}

module _ {X Y : Type 0} (spell : Y → Data) (Fits : Y → Type 0) (word_here : List ℕ) (F : Form X Y 1) where
  pub here_reported : (p w : List ℕ) (ds : Items) (b : Bool) (sorts : Option (List Sort)) (o : Outcome Y)
      → first_of (sorted_faults p sorts ds) ≡ fault_of p o
      → first_of (sorted_faults p (cond b (Some F.row.sorts) sorts) ds) ≡ fault_of p (cond b (F.read (worded_array w ds)) o)
  here_reported p w ds true sorts o others = form_reported (string w ∷ []) F ds p
  here_reported p w ds false sorts o others = others

  pub here_means : (w : List ℕ) (ds : Items) (y : Y) (b : Bool) (o : Outcome Y) → (b ≡ true → w ≡ word_here)
      → ((x : X) → spell (F.make x) ≡ list (word word_here ∷ F.row.spell x)) → ((x : X) → F.row.Fits x → Fits (F.make x))
      → (o ≡ Ok y → Spells (worded_array w ds) (spell y) × Fits y) → cond b (F.read (worded_array w ds)) o ≡ Ok y
      → Spells (worded_array w ds) (spell y) × Fits y
  here_means w ds y true o is spelled fits others h =
      after_means F w spell Fits (λ (x : X). spelled x ∙ ap (λ (v : List ℕ). list (word v ∷ F.row.spell x)) (sym (is refl))) fits ds y h
  here_means w ds y false o is spelled fits others h = others h

  abbrev pub or_word : ((x : X) → spell (F.make x) ≡ list (word word_here ∷ F.row.spell x)) → ((x : X) → F.row.Fits x → Fits (F.make x))
      → Words Y spell Fits → Words Y spell Fits
  or_word spelled fits W = record {
    sorts = λ w. cond (same w word_here) (Some F.row.sorts) (W.sorts w);
    read = λ w d. cond (same w word_here) (F.read d) (W.read w d);
    reported = λ p w ds. here_reported p w ds (same w word_here) (W.sorts w) (W.read w (worded_array w ds)) (W.reported p w ds);
    means = λ w ds y h.
        here_means w ds y (same w word_here) (W.read w (worded_array w ds)) (bytes_eq-Decides w word_here).0 spelled fits (W.means w ds y) h;
  }

module _ {Y : Type 0} (spell : Y → Data) (Fits : Y → Type 0) (W : Words Y spell Fits) (table : Table)
    (is : (w : List ℕ) → sorts_of table w ≡ W.sorts w) where
  words_reported : (p : List ℕ) (d : Data) → first_of (worded_faults table p d) ≡ fault_of p (or_shape (word_at 0 d) >>= λ w. W.read w d)
  words_reported p d = grind (arith, nat_tests, wrong_is)

  words_means : (d : Data) (y : Y) → (or_shape (word_at 0 d) >>= λ w. W.read w d) ≡ Ok y → Spells d (spell y) × Fits y
  words_means (array (item (string w) ds)) y h = W.means w ds y h
  words_means null y h = cc
  words_means _ y h = cc

  pub words_laws : ((d : Data) (y : Y) → Spells d (spell y) → Fits y → (or_shape (word_at 0 d) >>= λ w. W.read w d) ≡ Ok y)
      → Laws Y (λ d. or_shape (word_at 0 d) >>= λ w. W.read w d) spell Fits (worded_faults table)
  words_laws reads = record { reported = words_reported; means = words_means; reads = reads }
