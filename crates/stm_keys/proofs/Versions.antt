-- A chain's versions against their numbers.
use Rattle.std.proofs.Common.{◌≡◌, ℕ, ◌≤◌, ◌<◌, true, false, List, [], ◌∷◌, length, map, sym, ◌∙◌, ap, subst, arith, ltb, Option, IfSome, option_map}
use Rattle.std.specs.List.Sorted.{IsNonDecreasing, IsNonDecreasingBy, IsPartitionPoint}
use Rattle.std.proofs.lemmas.List.{length-map, get_or-map}
use Rattle.std.proofs.lemmas.Bool.Decides.{nat_tests}

-- versions rise by what rises once it is read off them
pub rising_by : {V : Type 0} (f : V → ℕ) (xs : List V) → IsNonDecreasing (map f xs) → IsNonDecreasingBy f xs
rising_by f xs rising = λ i j d le within.
    let long : length (map f xs) ≡ length xs = length-map xs f in
    omega (arith, rising i j (f d) le (subst (λ n. j < n) (sym long) within), get_or-map f xs i d (f d) (omega arith), get_or-map f xs j d (f d) within)

-- a cut of versions is one of what is read off them
pub cut_by : {V : Type 0} (f : V → ℕ) (xs : List V) (count i : ℕ) → i ≤ length xs →
    IsPartitionPoint (λ y. ltb (f y) count ≡ true) (λ y. ltb (f y) count ≡ false) xs i →
    IsPartitionPoint (λ y. ltb y count ≡ true) (λ y. ltb y count ≡ false) (map f xs) i
cut_by f [] count i within cut = (λ j d low high. absurd (omega (arith, within, high)), λ j d low high. absurd (omega (arith, high)))
cut_by f (x ∷ xs) count i within cut = (
  λ j d low high. ap (λ m. ltb m count) (get_or-map f (x ∷ xs) j x d (omega (arith, within, high))) ∙ cut.0 j x low high,
  λ j d low high.
      let below : j < length (x ∷ xs) = subst (λ n. j < n) (length-map (x ∷ xs) f) high in
      ap (λ m. ltb m count) (get_or-map f (x ∷ xs) j x d below) ∙ cut.1 j x low below,
)

-- what holds of what is read off a version
pub if_read : {V : Type 0} (f : V → ℕ) (P : ℕ → Type 0) (o : Option V) → IfSome (option_map f o) P → IfSome o (λ v. P (f v))
if_read f P o within = grind (arith, nat_tests)
