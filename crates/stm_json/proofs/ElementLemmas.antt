-- What the words, the elements and the numbers that were found say of the data.
use Rattle.std.proofs.Common.{◌≡◌, ◌≢◌, length, ℕ, ◌^◌, ◌<◌, ◌≤◌, ℤ, pos, negsuc, List, [], ◌∷◌, Bool, true, false, cond, Option, Some, None, Ok, refl}
use Rattle.std.proofs.Common.{option_map, leb, ltb, ap, ◌∙◌, arith, leb-true, ltb-true, lt-ltb, le-leb, subst, FitsSigned}
use Rattle.std.specs.Int.{w64}
use Rattle.serde_json.specs.Data.{Num, unsigned, negative, float, Data, null, boolean, number, string, array, object, Items, no_items, item}
use Rattle.serde_json.specs.View.{items_of, items_view}
use Rattle.serde_json.specs.declared.value.Value.{Value}
use Rattle.serde_json.specs.Find.{as_integer}
use Rattle.stm_json.specs.Elements.{SpellsNumber, first_word, worded, one_of, two_of, three_of, four_of, number_up_to, whole_number, is_64_bit, in_64_bits}
use Rattle.stm_json.specs.Elements.{in_range}
use Rattle.stm_json.proofs.OutcomeLemmas.{guard_ok, bind_ok}

pub first_word-is : (ds : Items) (p : List ℕ × Items) → first_word ds ≡ Some p → ds ≡ item (string p.0) p.1
first_word-is no_items p h = cc
first_word-is (item null ds) p h = cc
first_word-is (item (boolean b) ds) p h = cc
first_word-is (item (number n) ds) p h = cc
first_word-is (item (string s) ds) p h =
    let e : (s, ds) ≡ p = cc in
    ap (λ (q : List ℕ × Items). item (string q.0) q.1) e
first_word-is (item (array es) ds) p h = cc
first_word-is (item (object ms) ds) p h = cc

pub worded-is : (d : Data) (p : List ℕ × Items) → worded d ≡ Some p → d ≡ array (item (string p.0) p.1)
worded-is null p h = cc
worded-is (boolean b) p h = cc
worded-is (number n) p h = cc
worded-is (string s) p h = cc
worded-is (array ds) p h = ap array (first_word-is ds p h)
worded-is (object ms) p h = cc

-- a list that has not one element
pub one_of-not_one : (vs : List Value) → length vs ≢ 1 → None ≡ one_of (items_view vs)
one_of-not_one [] h = refl
one_of-not_one (v ∷ []) h = absurd (h refl)
one_of-not_one (v ∷ w ∷ vs) h = refl

pub one_of-is : (ds : Items) (a : Data) → one_of ds ≡ Some a → ds ≡ items_of (a ∷ [])
one_of-is no_items a h = cc
one_of-is (item b no_items) a h = cc
one_of-is (item b (item c ds)) a h = cc

two_is : (a : Data) (ds : Items) (o : Option Data) (p : Data × Data) → one_of ds ≡ o
    → option_map (λ (b : Data). (a, b)) o ≡ Some p → item a ds ≡ items_of (p.0 ∷ p.1 ∷ [])
two_is a ds None p e h = cc
two_is a ds (Some b) p e h =
    let q : (a, b) ≡ p = cc in
    ap (item a) (one_of-is ds b e) ∙ ap (λ (r : Data × Data). items_of (r.0 ∷ r.1 ∷ [])) q

pub two_of-is : (ds : Items) (p : Data × Data) → two_of ds ≡ Some p → ds ≡ items_of (p.0 ∷ p.1 ∷ [])
two_of-is no_items p h = cc
two_of-is (item a ds) p h = two_is a ds (one_of ds) p refl h

three_is : (a : Data) (ds : Items) (o : Option (Data × Data)) (p : Data × Data × Data) → two_of ds ≡ o
    → option_map (λ (q : Data × Data). (a, q.0, q.1)) o ≡ Some p → item a ds ≡ items_of (p.0 ∷ p.1 ∷ p.2 ∷ [])
three_is a ds None p e h = cc
three_is a ds (Some q) p e h =
    let k : (a, q.0, q.1) ≡ p = cc in
    ap (item a) (two_of-is ds q e) ∙ ap (λ (r : Data × Data × Data). items_of (r.0 ∷ r.1 ∷ r.2 ∷ [])) k

pub three_of-is : (ds : Items) (p : Data × Data × Data) → three_of ds ≡ Some p → ds ≡ items_of (p.0 ∷ p.1 ∷ p.2 ∷ [])
three_of-is no_items p h = cc
three_of-is (item a ds) p h = three_is a ds (two_of ds) p refl h

four_is : (a : Data) (ds : Items) (o : Option (Data × Data × Data)) (p : Data × Data × Data × Data) → three_of ds ≡ o
    → option_map (λ (q : Data × Data × Data). (a, q.0, q.1, q.2)) o ≡ Some p → item a ds ≡ items_of (p.0 ∷ p.1 ∷ p.2 ∷ p.3 ∷ [])
four_is a ds None p e h = cc
four_is a ds (Some q) p e h =
    let k : (a, q.0, q.1, q.2) ≡ p = cc in
    ap (item a) (three_of-is ds q e) ∙ ap (λ (r : Data × Data × Data × Data). items_of (r.0 ∷ r.1 ∷ r.2 ∷ r.3 ∷ [])) k

pub four_of-is : (ds : Items) (p : Data × Data × Data × Data) → four_of ds ≡ Some p → ds ≡ items_of (p.0 ∷ p.1 ∷ p.2 ∷ p.3 ∷ [])
four_of-is no_items p h = cc
four_of-is (item a ds) p h = four_is a ds (three_of ds) p refl h

-- ---- numbers

pub is_64_bit-fits : (z : ℤ) → is_64_bit z ≡ true → FitsSigned w64 z
is_64_bit-fits (pos n) h = record { sfits = ltb-true n (2 ^ 63) h }
is_64_bit-fits (negsuc n) h = record { sfits = ltb-true n (2 ^ 63) h }

small_whole : (m : ℕ) (b : Bool) (z : ℤ) → ltb m (2 ^ 63) ≡ b
    → in_64_bits (cond b (Some (pos m)) None) true ≡ Ok z → (pos m ≡ z) × (is_64_bit z ≡ true)
small_whole m true z e h =
    let g = guard_ok (ltb m (2 ^ 63)) (pos m) z _ h in
    (g.1, cc)
small_whole m false z e h = cc

pub whole_number-is : (d : Data) (z : ℤ) → whole_number d ≡ Ok z → SpellsNumber d z × (is_64_bit z ≡ true)
unfolding whole_number
whole_number-is null z h = cc
whole_number-is (boolean b) z h = cc
whole_number-is (number (unsigned m)) z h =
    let s = small_whole m (ltb m (2 ^ 63)) z refl h in
    ((unsigned m, refl, ap Some s.0), s.1)
whole_number-is (number (negative y)) z h =
    let g = guard_ok (is_64_bit y) y z _ h in
    ((negative y, refl, ap Some g.1), cc)
whole_number-is (number (float x)) z h = cc
whole_number-is _ z h = cc

in_range-is : (limit : ℕ) (z : ℤ) (n : ℕ) → in_range limit z ≡ Ok n → (z ≡ pos n) × (n ≤ limit)
in_range-is limit (pos m) n h =
    let g = guard_ok (leb m limit) m n _ h in
    (ap pos g.1, omega (arith, leb-true _ _ g.0, g.1))
in_range-is limit (negsuc m) n h = cc

pub number_up_to-is : (limit : ℕ) (d : Data) (n : ℕ) → number_up_to limit d ≡ Ok n → SpellsNumber d (pos n) × (n ≤ limit)
unfolding number_up_to
number_up_to-is limit d n h =
    let q = bind_ok (whole_number d) (in_range limit) n h in
    let w = whole_number-is d q.0 q.1 in
    let r = in_range-is limit q.0 n q.2 in
    (subst (λ (z : ℤ). SpellsNumber d z) r.0 w.0, r.1)

-- ---- what is spelled is found

is_64_bit-from : (z : ℤ) → FitsSigned w64 z → is_64_bit z ≡ true
is_64_bit-from (pos n) f = lt-ltb n (2 ^ 63) f.sfits
is_64_bit-from (negsuc n) f = lt-ltb n (2 ^ 63) f.sfits

spelled_whole : (d : Data) (z : ℤ) (n : Num) → d ≡ number n → as_integer n ≡ Some z → is_64_bit z ≡ true → whole_number d ≡ Ok z
unfolding whole_number
spelled_whole d z (unsigned m) e i f =
    let is : z ≡ pos m = cc in
    let small : ltb m (2 ^ 63) ≡ true = rw is at f in
    rw (e, small, is) (rw small refl)
spelled_whole d z (negative y) e i f =
    let is : y ≡ z = cc in
    rw (e, is, f) refl
spelled_whole d z (float x) e i f = cc

pub whole_number-reads : (d : Data) (z : ℤ) → SpellsNumber d z → FitsSigned w64 z → whole_number d ≡ Ok z
whole_number-reads d z s f = spelled_whole d z s.0 s.1 s.2 (is_64_bit-from z f)

pub number_up_to-reads : (limit : ℕ) (d : Data) (n : ℕ) → limit < 2 ^ 63 → SpellsNumber d (pos n) → n ≤ limit → number_up_to limit d ≡ Ok n
unfolding number_up_to
number_up_to-reads limit d n small s h =
    let f : FitsSigned w64 (pos n) = record { sfits = omega arith } in
    let e = whole_number-reads d (pos n) s f in
    let b = le-leb n limit h in
    rw (e, b) refl
