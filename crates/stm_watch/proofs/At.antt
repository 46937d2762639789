-- What stands at a place of a list.
use Rattle.std.proofs.Common.{◌≡◌, ◌⊎◌, ℕ, zero, suc, ◌<◌, List, [], ◌∷◌, ◌++◌, length, map, Option, Some, None, IsSome, is_some, option_map, slice_index_or, slice_set}
use Rattle.std.proofs.Common.{false, refl, ap, inl, inr, arith}
use Rattle.std.proofs.lemmas.Option.{same_Some}
use Rattle.std.proofs.Math.ListN.{get_or-map}
use Rattle.std.proofs.lemmas.Bool.Decides.{nat_tests}

-- something stands at no place past the last
pub within : {A : Type 0} (xs : List (Option A)) (i : ℕ) → IsSome (slice_index_or xs i None) → i < length xs
within [] i some = absurd (cc)
within (x ∷ xs) zero some = omega arith
within (x ∷ xs) (suc i) some = let rest = within xs i some in omega (arith, rest)

pub not_some : {A : Type 0} (o : Option A) → is_some o ≡ false → o ≡ None
not_some o none = grind (arith, nat_tests)

pub slot_of_map : {A B : Type 0} (f : A → B) (xs : List (Option A)) (i : ℕ)
    → slice_index_or (map (option_map f) xs) i None ≡ option_map f (slice_index_or xs i None)
slot_of_map f xs i = get_or-map (option_map f) xs i None

-- what was read at a place where something stands
pub read_at : {A : Type 0} (xs : List (Option A)) (i : ℕ) (d : Option A) → i < length xs → slice_index_or xs i d ≡ slice_index_or xs i None
read_at [] i d below = absurd (omega arith)
read_at (x ∷ xs) zero d below = refl
read_at (x ∷ xs) (suc i) d below = read_at xs i d (omega arith)

pub set_twice : {A : Type 0} (xs : List A) (i : ℕ) (x y : A) → slice_set (slice_set xs i x) i y ≡ slice_set xs i y
set_twice [] i x y = refl
set_twice (z ∷ xs) zero x y = refl
set_twice (z ∷ xs) (suc i) x y = ap (λ l. z ∷ l) (set_twice xs i x y)

-- what stands at a place after one more
pub slot_of_more : {A : Type 0} (xs : List (Option A)) (x y : A) (i : ℕ) → slice_index_or (xs ++ Some x ∷ []) i None ≡ Some y
    → (slice_index_or xs i None ≡ Some y) ⊎ ((i ≡ length xs) × (x ≡ y))
slot_of_more [] x y zero is = inr (refl, same_Some x y is)
slot_of_more [] x y (suc i) is = absurd (cc)
slot_of_more (z ∷ xs) x y zero is = inl is
slot_of_more (z ∷ xs) x y (suc i) is = grind (arith, nat_tests, slot_of_more xs x y i is)

-- what is read at a place that is there does not depend on what would be read past the last
pub read_same : {A : Type 0} (xs : List A) (i : ℕ) (d e : A) → i < length xs → slice_index_or xs i d ≡ slice_index_or xs i e
read_same [] i d e below = absurd (omega arith)
read_same (x ∷ xs) zero d e below = refl
read_same (x ∷ xs) (suc i) d e below = read_same xs i d e (omega arith)
