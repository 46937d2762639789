-- Lists, each element with the one at its place in another.
use Rattle.std.proofs.Common.{◌≡◌, ◌<◌, ℕ, zero, suc, ◌+◌, List, [], ◌∷◌, ◌++◌, length, take, get_or, Some, slice_get, sym, ap, ◌∙◌, subst, arith}
use Rattle.std.proofs.Math.Seq.{take-suc}
use Rattle.std.specs.List.{AllZip}

pub zip_push : {A B : Type 0} (R : A → B → Type 0) (xs : List A) (ys : List B) (x : A) (y : B) → AllZip R xs ys → R x y → AllZip R (xs ++ x ∷ []) (ys ++ y ∷ [])
zip_push R [] [] x y all more = (more, tt)
zip_push R [] (b ∷ ys) x y all more = absurd all
zip_push R (a ∷ xs) [] x y all more = absurd all
zip_push R (a ∷ xs) (b ∷ ys) x y all more = (all.0, zip_push R xs ys x y all.1 more)

pub zip_weaker : {A B : Type 0} (R S : A → B → Type 0) (xs : List A) (ys : List B) → ((x : A) (y : B) → R x y → S x y) → AllZip R xs ys → AllZip S xs ys
zip_weaker R S [] [] weaker all = all
zip_weaker R S [] (b ∷ ys) weaker all = absurd all
zip_weaker R S (a ∷ xs) [] weaker all = absurd all
zip_weaker R S (a ∷ xs) (b ∷ ys) weaker all = (weaker a b all.0, zip_weaker R S xs ys weaker all.1)

-- one more of those so far
pub zip_next : {A B : Type 0} (R : A → B → Type 0) (xs : List A) (ys : List B) (i : ℕ) (x : A) (y : B) → i < length xs → x ≡ get_or xs i x → R x y →
    AllZip R (take i xs) ys → AllZip R (take (i + 1) xs) (ys ++ y ∷ [])
zip_next {A} {B} R xs ys i x y within is more all =
    let step : i + 1 ≡ suc i = omega arith in
    let e : take (i + 1) xs ≡ take i xs ++ x ∷ [] = ap (λ n. take n xs) step ∙ take-suc xs i x within ∙ ap (λ z. take i xs ++ z ∷ []) (sym is) in
    subst (λ l. AllZip R l (ys ++ y ∷ [])) (sym e) (zip_push R (take i xs) ys x y all more)

pub there : {A : Type 0} (xs : List A) (i : ℕ) (x : A) → i < length xs → x ≡ get_or xs i x → slice_get xs i ≡ Some x
there [] i x within is = absurd (omega (arith, within))
there (y ∷ ys) zero x within is = ap Some (sym is)
there (y ∷ ys) (suc i) x within is = there ys i x (omega (arith, within)) is
