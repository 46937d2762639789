-- Rows of parts, one after the other. That their faults are those that reading answers, that what was read is spelled, and that what is
-- spelled is read, is proved once, whatever the parts are.
use Rattle.std.proofs.Common.{◌≡◌, ℕ, suc, ◌+◌, List, [], ◌∷◌, length, map, Bool, true, false, cond, eqb, Option, Ok, refl, sym, ap, subst, ◌∙◌, arith}
use Rattle.std.proofs.lemmas.Bool.Decides.{nat_tests}
use Rattle.serde_json.specs.Data.{Data, array, Items, no_items, item}
use Rattle.serde_json.specs.Events.{items_len}
use Rattle.serde_json.specs.Find.{get_item}
use Rattle.serde_json.specs.View.{items_of}
use Rattle.stm_json.specs.declared.cause.Cause.TheVariants.{Shape}
use Rattle.stm_json.specs.Outcome.{Outcome, bad, ◌>>=◌, within}
use Rattle.stm_json.proofs.OutcomeLemmas.{bind_ok, within_ok}
use Rattle.stm_json.specs.Faults.{Faults, Sort, By, first_of, wrong, at, faults_by, is_count, parts_faults}
use Rattle.stm_json.proofs.FaultLemmas.{fault_of, wrong_is, part_then}
use Rattle.stm_report_lines.specs.FirstFault.{list_of as list_faults}
use Rattle.stm_report_lines.specs.Grammar.{Spells, SpellsItems}
use Rattle.stm_report_lines.specs.LineData.{list}
use Rattle.stm_report_lines.specs.Parts.{or_shape, listed, part_at, exactly}
use Rattle.stm_report_lines.proofs.ReadLaws.{Laws, AnyFits, list_laws}

-- What may stand as an get_item of an array: what is read of it, what spells it, and its sort in a table of first faults.
pub record Part (A : Type 0) : Type 1 where
  pub read : Data → Outcome A
  pub spell : A → Data
  pub sort : Sort
  pub Fits : A → Type 0
  pub reported : (p : List ℕ) (d : Data) → first_of (faults_by sort p d) ≡ fault_of p (read d)
  pub means : (d : Data) (x : A) → read d ≡ Ok x → Spells d (spell x) × Fits x
  pub reads : (d : Data) (x : A) → Spells d (spell x) → Fits x → read d ≡ Ok x

-- a part of which all that is spelled is read
abbrev pub part : {A : Type 0} (read : Data → Outcome A) (spell : A → Data) (sort : Sort)
    → ((p : List ℕ) (d : Data) → first_of (faults_by sort p d) ≡ fault_of p (read d))
    → ((d : Data) (x : A) → read d ≡ Ok x → Spells d (spell x)) → ((d : Data) (x : A) → Spells d (spell x) → read d ≡ Ok x) → Part A
part read spell sort reported means reads = record {
  read = read;
  spell = spell;
  sort = sort;
  Fits = λ x. Unit {0};
  reported = reported;
  means = λ d x h. (means d x h, tt);
  reads = λ d x s fits. reads d x s;
}

-- a part of which these laws hold, and a list of such parts
abbrev pub part_by : {A : Type 0} (read : Data → Outcome A) (spell : A → Data) (Fits : A → Type 0) (sort : Sort)
    → Laws A read spell Fits (faults_by sort) → Part A
part_by read spell Fits sort L =
    record { read = read; spell = spell; sort = sort; Fits = Fits; reported = L.reported; means = L.means; reads = L.reads }

abbrev pub list_part : {A : Type 0} (read : Data → Outcome A) (spell : A → Data) (faults : List ℕ → Data → Faults) → Laws A read spell AnyFits faults
    → Part (List A)
list_part read spell faults L =
    part_by (listed read) (λ xs. list (map spell xs)) AnyFits (By (list_faults faults))
    (list_laws read spell AnyFits faults L AnyFits tt (λ x xs f. tt) (λ x xs f. (tt, tt)))

-- ---- elements before parts

-- elements of an array: some, of which the last comes first, and those after them
abbrev pub onto : List Data → Items → Items
onto [] ds = ds
onto (d ∷ before) ds = onto before (item d ds)

no_more : (k : ℕ) → 0 + k ≡ k
no_more k = omega arith

element_onto : (before : List Data) (k : ℕ) (ds : Items) → get_item (length before + k) (onto before ds) ≡ get_item k ds
element_onto [] k ds = ap (λ (i : ℕ). get_item i ds) (no_more k)
element_onto (d ∷ before) k ds = grind (arith, nat_tests, element_onto before (suc k) (item d ds))

pub part_here : {A : Type 0} (read : Data → Outcome A) (before : List Data) (d : Data) (ds : Items)
    → part_at (length before) read (array (onto before (item d ds))) ≡ within (length before) (read d)
unfolding part_at
part_here read before d ds =
    let first : length before ≡ length before + 0 = omega arith in
    ap (λ (o : Option Data). or_shape o >>= λ e. within (length before) (read e))
    (ap (λ (i : ℕ). get_item i (onto before (item d ds))) first ∙ element_onto before 0 (item d ds))

count_onto : (before : List Data) (ds : Items) → items_len (onto before ds) ≡ length before + items_len ds
count_onto [] ds = sym (no_more (items_len ds))
count_onto (d ∷ before) ds = grind (arith, nat_tests, count_onto before (item d ds))

-- Parts one after the other, whose values are an X, and what is made of them. They are read of a whole array, from an index on.
pub record Row (X : Type 0) : Type 1 where
  pub sorts : List Sort
  pub spell : X → List Data
  pub Fits : X → Type 0
  pub read : (Y : Type 0) → ℕ → (X → Y) → Data → Outcome Y
  pub reported : (Y : Type 0) (p : List ℕ) (before : List Data) (make : X → Y) (ds : Items) → is_count sorts ds ≡ true
      → first_of (parts_faults p (length before) sorts ds) ≡ fault_of p (read Y (length before) make (array (onto before ds)))
  pub means : (Y : Type 0) (before : List Data) (make : X → Y) (ds : Items) (y : Y) → is_count sorts ds ≡ true
      → read Y (length before) make (array (onto before ds)) ≡ Ok y → (x : X) × (make x ≡ y) × SpellsItems ds (items_of (spell x)) × Fits x
  pub reads : (Y : Type 0) (before : List Data) (make : X → Y) (ds : Items) (x : X) → SpellsItems ds (items_of (spell x)) → Fits x
      → (is_count sorts ds ≡ true) × (read Y (length before) make (array (onto before ds)) ≡ Ok (make x))
  pub maps : (Y Z : Type 0) (i : ℕ) (make : X → Y) (g : Y → Z) (e : Data) → (read Y i make e >>= λ y. Ok (g y)) ≡ read Z i (λ x. g (make x)) e

-- ---- no part

-- reading answers this
abbrev pub Answers : {Y : Type 0} → Outcome Y → Y → Type 0
Answers o y = o ≡ Ok y

pub nothing_means : (Y : Type 0) (make : Unit {0} → Y) (ds : Items) (y : Y) → is_count [] ds ≡ true → Answers {Y = Y} (Ok (make tt)) y
    → (x : Unit {0}) × (make x ≡ y) × (ds ≡ no_items) × Unit {0}
nothing_means Y make no_items y h e = (tt, cc, refl, tt)
nothing_means Y make (item d ds) y h e = cc

abbrev pub nothing : Row (Unit {0})
nothing = record {
  sorts = [];
  spell = λ x. [];
  Fits = λ x. Unit {0};
  read = λ Y i make es. Ok (make tt);
  reported = λ Y p before make ds h. refl;
  means = λ Y before make ds y h e. nothing_means Y make ds y h e;
  reads = λ Y before make ds x s fits. (ap (λ (es : Items). is_count [] es) s, refl);
  maps = λ Y Z i make g es. refl;
}

-- ---- one part more in front

module _ {A X : Type 0} (P : Part A) (R : Row X) where
  abbrev pub read_then : (Y : Type 0) → ℕ → (A × X → Y) → Data → Outcome Y
  read_then Y i make e = part_at i P.read e >>= λ a. R.read Y (suc i) (λ x. make (a, x)) e

  here : (Y : Type 0) (before : List Data) (make : A × X → Y) (d : Data) (ds : Items) → read_then Y (length before) make (array (onto before (item d ds)))
      ≡ (within (length before) (P.read d) >>= λ a. R.read Y (length (d ∷ before)) (λ x. make (a, x)) (array (onto (d ∷ before) ds)))
  here Y before make d ds = grind (arith, nat_tests, part_here)

  pub then_reported : (Y : Type 0) (p : List ℕ) (before : List Data) (make : A × X → Y) (ds : Items) → is_count (P.sort ∷ R.sorts) ds ≡ true
      → first_of (parts_faults p (length before) (P.sort ∷ R.sorts) ds) ≡ fault_of p (read_then Y (length before) make (array (onto before ds)))
  then_reported Y p before make no_items h = cc
  then_reported Y p before make (item d ds) h =
      let i : ℕ = length before in
      part_then p i (P.read d) _ (faults_by P.sort (at p i) d) _ (P.reported (at p i) d) (λ (a : A). R.reported Y p (d ∷ before) (λ x. make (a, x)) ds h)
      ∙ ap (λ (o : Outcome Y). fault_of p o) (sym (here Y before make d ds))

  pub then_means : (Y : Type 0) (before : List Data) (make : A × X → Y) (ds : Items) (y : Y) → is_count (P.sort ∷ R.sorts) ds ≡ true
      → read_then Y (length before) make (array (onto before ds)) ≡ Ok y
      → (x : A × X) × (make x ≡ y) × SpellsItems ds (items_of (P.spell x.0 ∷ R.spell x.1)) × (P.Fits x.0 × R.Fits x.1)
  then_means Y before make no_items y h e = cc
  then_means Y before make (item d ds) y h e =
      let q = bind_ok (within (length before) (P.read d)) _ y (sym (here Y before make d ds) ∙ e) in
      let s = P.means d q.0 (within_ok (length before) _ _ q.1) in
      let m = R.means Y (d ∷ before) (λ (x : X). make (q.0, x)) ds y h q.2 in
      ((q.0, m.0), m.1, (d, ds, refl, s.0, m.2), (s.1, m.3))

  pub then_reads : (Y : Type 0) (before : List Data) (make : A × X → Y) (ds : Items) (x : A × X)
      → SpellsItems ds (items_of (P.spell x.0 ∷ R.spell x.1)) → P.Fits x.0 × R.Fits x.1
      → (is_count (P.sort ∷ R.sorts) ds ≡ true) × (read_then Y (length before) make (array (onto before ds)) ≡ Ok (make x))
  then_reads Y before make ds x (d, rest, is, s, more) fits =
      let r = R.reads Y (d ∷ before) (λ (z : X). make (x.0, z)) rest x.1 more fits.1 in
      let one : P.read d ≡ Ok x.0 = P.reads d x.0 s fits.0 in
      let read = ap (λ (o : Outcome A). within (length before) o >>= λ a. R.read Y (length (d ∷ before)) (λ z. make (a, z)) (array (onto (d ∷ before) rest))) one in
      subst (λ (e : Items). (is_count (P.sort ∷ R.sorts) e ≡ true) × (read_then Y (length before) make (array (onto before e)) ≡ Ok (make x))) (sym is)
      (r.0, here Y before make d rest ∙ read ∙ r.1)

  pub then_maps : (Y Z : Type 0) (i : ℕ) (make : A × X → Y) (g : Y → Z) (e : Data)
      → (read_then Y i make e >>= λ y. Ok (g y)) ≡ read_then Z i (λ x. g (make x)) e
  then_maps Y Z i make g e = grind (arith, nat_tests)

infixr 25 ◌&◌
abbrev pub ◌&◌ : {A X : Type 0} → Part A → Row X → Row (A × X)
P & R = record {
  sorts = P.sort ∷ R.sorts;
  spell = λ x. P.spell x.0 ∷ R.spell x.1;
  Fits = λ x. P.Fits x.0 × R.Fits x.1;
  read = λ Y i make es. read_then P R Y i make es;
  reported = λ Y p before make ds h. then_reported P R Y p before make ds h;
  means = λ Y before make ds y h e. then_means P R Y before make ds y h e;
  reads = λ Y before make ds x s fits. then_reads P R Y before make ds x s fits;
  maps = λ Y Z i make g es. then_maps P R Y Z i make g es;
}

-- the values of parts, by their order
abbrev pub second : {A B C : Type 0} → A × (B × C) → B
second x = (x.1).0

abbrev pub third : {A B C D : Type 0} → A × (B × (C × D)) → C
third x = ((x.1).1).0

abbrev pub fourth : {A B C D E : Type 0} → A × (B × (C × (D × E))) → D
fourth x = (((x.1).1).1).0

abbrev pub fifth : {A B C D E F : Type 0} → A × (B × (C × (D × (E × F)))) → E
fifth x = ((((x.1).1).1).1).0

abbrev pub sixth : {A B C D E F G : Type 0} → A × (B × (C × (D × (E × (F × G))))) → F
sixth x = (((((x.1).1).1).1).1).0

-- ---- as many elements as parts

pub counted_reported : {Y : Type 0} (p : List ℕ) (b : Bool) (faults : Faults) (o : Outcome Y) → (b ≡ true → first_of faults ≡ fault_of p o)
    → first_of (cond b faults (wrong p Shape)) ≡ fault_of p (cond b o (bad Shape))
counted_reported p true faults o h = h refl
counted_reported {Y} p false faults o h = wrong_is {A = Y} p Shape (bad Shape) refl

pub counted_ok : {Y : Type 0} (b : Bool) (o : Outcome Y) (y : Y) → cond b o (bad Shape) ≡ Ok y → (b ≡ true) × (o ≡ Ok y)
counted_ok b o y h = grind (arith, nat_tests)

count_is : (sorts : List Sort) (ds : Items) → is_count sorts ds ≡ eqb (items_len ds) (length sorts)
count_is [] no_items = refl
count_is [] (item d ds) = grind (arith, nat_tests)
count_is (s ∷ sorts) no_items = grind (arith, nat_tests)
count_is (s ∷ sorts) (item d ds) = let rest = count_is sorts ds in grind (arith, nat_tests)

where_true : {Y : Type 0} (b : Bool) (o : Outcome Y) → (cond b (Ok tt) (bad {A = Unit {0}} Shape) >>= λ u. o) ≡ cond b o (bad Shape)
where_true b o = grind (arith, nat_tests)

-- as many elements come after those before as there are parts
pub exactly_is : {Y : Type 0} (before : List Data) (sorts : List Sort) (ds : Items) (o : Outcome Y)
    → (exactly (length before + length sorts) (array (onto before ds)) >>= λ u. o) ≡ cond (is_count sorts ds) o (bad Shape)
exactly_is before sorts ds o = grind (arith, nat_tests, where_true, count_onto, count_is)
