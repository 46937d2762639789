-- Sums over the views of all seats, one of which changes.
use Rattle.std.proofs.Common.{◌≡◌, ℕ, zero, suc, ◌+◌, ◌<◌, ◌≤◌, Bool, true, false, cond, eqb, ltb, List, [], ◌∷◌, ◌++◌, length, set, get_or, sum_by}
use Rattle.std.proofs.Common.{refl, sym, ap, ap₂, ◌∙◌, subst, ⊎_elim, arith, lt-ltb, le-ltb, eq-eqb, ne_eqb}
use Rattle.std.proofs.lemmas.List.Sums.{sum_by-cons, sum_by-append, sum_by_push, sum_by-set, get_or-le-sum_by}
use Rattle.std.proofs.lemmas.Bool.{cases_order}
use mathlib.Core.Option.{some, some-injective, some-ne-none}
use lib.ListN.{get_elem?}
use Rattle.stm_job.specs.Draw.{times, once_below}

-- sums of plain numbers
drop_term : (whole first rest value : ℕ) → whole ≡ first + rest → rest ≡ 0 → first ≡ value → whole ≡ value
drop_term whole first rest value is none same = omega arith

drop_first : (whole first rest value : ℕ) → whole ≡ first + rest → first ≡ 0 → rest ≡ value → whole ≡ value
drop_first whole first rest value is none same = omega arith

both_none : (whole first rest : ℕ) → whole ≡ first + rest → whole ≡ 0 → (first ≡ 0) × (rest ≡ 0)
both_none whole first rest is none = (omega arith, omega arith)

rest_none : (whole first rest value : ℕ) → whole ≡ first + rest → whole ≡ value → first ≡ value → rest ≡ 0
rest_none whole first rest value is all same = omega arith

first_none : (whole first rest value : ℕ) → whole ≡ first + rest → whole ≡ value → value ≤ rest → (first ≡ 0) × (rest ≡ value)
first_none whole first rest value is all high = (omega arith, omega arith)

-- what a sum becomes, where one term is replaced by another that is `more` higher
pub grown : (old new was is more : ℕ) → new + was ≡ old + is → is ≡ was + more → new ≡ old + more
grown old new was is more change by = omega arith

module _ {A : Type 0} where
  pub in_range : (l : List A) (i : ℕ) (a : A) → get_elem? l i ≡ some a → i < length l
  in_range [] i a e = absurd (some-ne-none a (sym e))
  in_range (x ∷ xs) zero a e = omega arith
  in_range (x ∷ xs) (suc i) a e = let r = in_range xs i a e in omega arith

  pub found_at : (l : List A) (i : ℕ) (a : A) → get_elem? l i ≡ some a → get_or l i a ≡ a
  found_at [] i a e = absurd (some-ne-none a (sym e))
  found_at (x ∷ xs) zero a e = some-injective x a e
  found_at (x ∷ xs) (suc i) a e = found_at xs i a e

  pub sum_changed : (f : A → ℕ) (views : List A) (id : ℕ) (v w : A) → get_elem? views id ≡ some v → sum_by f (set views id w) + f v ≡ sum_by f views + f w
  sum_changed f views id v w at =
      subst (λ (u : A). sum_by f (set views id w) + f u ≡ sum_by f views + f w) (found_at views id v at) (sum_by-set f views id w v (in_range views id v at))

  pub at_most_all : (f : A → ℕ) (views : List A) (id : ℕ) (v : A) → get_elem? views id ≡ some v → f v ≤ sum_by f views
  at_most_all f views id v at = subst (λ (u : A). f u ≤ sum_by f views) (found_at views id v at) (get_or-le-sum_by f views id v (in_range views id v at))

  -- where an element of no weight counts nothing, and all weigh nothing, all count nothing
  none_count : (f weight : A → ℕ) (views : List A) → sum_by weight views ≡ 0
      → ((id : ℕ) (v : A) → get_elem? views id ≡ some v → weight v ≡ 0 → f v ≡ 0) → sum_by f views ≡ 0
  none_count f weight [] e idle = refl
  none_count f weight (x ∷ xs) e idle =
      let light = both_none (sum_by weight (x ∷ xs)) (weight x) (sum_by weight xs) (sum_by-cons weight x xs) e in
      drop_term (sum_by f (x ∷ xs)) (f x) (sum_by f xs) 0 (sum_by-cons f x xs)
      (none_count f weight xs light.1 (λ id v at z. idle (suc id) v at z)) (idle 0 x refl light.0)

  -- where an element of no weight counts nothing, and one has all the weight, all count what that one does
  pub alone : (f weight : A → ℕ) (views : List A) (id : ℕ) (v : A) → get_elem? views id ≡ some v → sum_by weight views ≡ weight v
      → ((j : ℕ) (u : A) → get_elem? views j ≡ some u → weight u ≡ 0 → f u ≡ 0) → sum_by f views ≡ f v
  alone f weight [] id v at e idle = absurd (some-ne-none v (sym at))
  alone f weight (x ∷ xs) zero v at e idle =
      let same : x ≡ v = some-injective x v at in
      let light = rest_none (sum_by weight (x ∷ xs)) (weight x) (sum_by weight xs) (weight v) (sum_by-cons weight x xs) e (ap weight same) in
      drop_term (sum_by f (x ∷ xs)) (f x) (sum_by f xs) (f v) (sum_by-cons f x xs)
      (none_count f weight xs light (λ j u there z. idle (suc j) u there z)) (ap f same)
  alone f weight (x ∷ xs) (suc id) v at e idle =
      let light = first_none (sum_by weight (x ∷ xs)) (weight x) (sum_by weight xs) (weight v) (sum_by-cons weight x xs) e (at_most_all weight xs id v at) in
      drop_first (sum_by f (x ∷ xs)) (f x) (sum_by f xs) (f v) (sum_by-cons f x xs) (idle 0 x refl light.0)
      (alone f weight xs id v at light.1 (λ j u there z. idle (suc j) u there z))

-- one number more stands in the list
pub times_push : (x k : ℕ) (numbers : List ℕ) → times x (numbers ++ k ∷ []) ≡ times x numbers + cond (eqb k x) 1 0
times_push x k numbers = sum_by_push (λ (y : ℕ). cond (eqb y x) 1 0) numbers k

pub times_both : (x : ℕ) (left right : List ℕ) → times x (left ++ right) ≡ times x left + times x right
times_both x left right = sum_by-append (λ (y : ℕ). cond (eqb y x) 1 0) left right

abbrev pub bit : Bool → ℕ
bit b = cond b 1 0

-- the next number is below a bound that is one higher, and no other number is
pub one_more : (k x : ℕ) → once_below (k + 1) x ≡ once_below k x + cond (eqb k x) 1 0
one_more k x = ⊎_elim
    (λ (same : k ≡ x). counted false true true (le-ltb x k (omega arith)) (lt-ltb x (k + 1) (omega arith)) (eq-eqb k x same) refl)
    (λ other. ⊎_elim
    (λ (above : k < x).
    counted false false false (le-ltb x k (omega arith)) (le-ltb x (k + 1) (omega arith)) (ne_eqb k x (λ (e : k ≡ x). omega arith)) refl)
    (λ (below : x < k). counted true true false (lt-ltb x k below) (lt-ltb x (k + 1) (omega arith)) (ne_eqb k x (λ (e : k ≡ x). omega arith)) refl)
    other)
    (cases_order k x)
  where
    counted : (p q r : Bool) → ltb x k ≡ p → ltb x (k + 1) ≡ q → eqb k x ≡ r → bit q ≡ bit p + bit r → bit (ltb x (k + 1)) ≡ bit (ltb x k) + bit (eqb k x)
    counted p q r before after hit same = ap bit after ∙ same ∙ sym (ap₂ (λ (s t : Bool). bit s + bit t) before hit)
