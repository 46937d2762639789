-- The front of a list up to a place, and what is left after it.
use Rattle.std.proofs.Common.{◌≡◌, ℕ, ◌+◌, suc, ◌<◌, List, [], ◌∷◌, ◌++◌, length, map, take, drop, get_or, Some, sym, ◌∙◌, ap, arith}
use Rattle.std.specs.Prelude.{slice_get}
use Rattle.std.proofs.lemmas.List.{take_more, map-append}
use Rattle.std.proofs.lemmas.Option.{get_or_from_slice_get, slice_get_within}
use Rattle.std.proofs.Math.Seq.{drop-cons}

pub left_at : {X : Type 0} (xs : List X) (i : ℕ) (x : X) → i < length xs → x ≡ get_or xs i x → drop i xs ≡ x ∷ drop (i + 1) xs
left_at xs i x within is =
    let step : i + 1 ≡ suc i = omega arith in
    drop-cons xs i x within ∙ ap (λ (y : _). y ∷ drop (suc i) xs) (sym is) ∙ ap (λ (n : ℕ). x ∷ drop n xs) (sym step)

-- one more element of a front is mapped
pub mapped_next : {X Y : Type 0} (f : X → Y) (xs : List X) (i : ℕ) (x : X) → i < length xs → x ≡ get_or xs i x →
    map f (take i xs) ++ f x ∷ [] ≡ map f (take (i + 1) xs)
mapped_next f xs i x within is =
    sym (map-append f (take i xs) (x ∷ []))
    ∙ ap (λ (y : _). map f (take i xs ++ y ∷ [])) is
    ∙ ap (map f) (sym (take_more xs i x within))

pub mapped_more : {X Y : Type 0} (f : X → Y) (xs : List X) (i : ℕ) (x : X) → slice_get xs i ≡ Some x →
    map f (take i xs) ++ f x ∷ [] ≡ map f (take (i + 1) xs)
mapped_more f xs i x is = mapped_next f xs i x (slice_get_within xs i x is) (sym (get_or_from_slice_get xs i x x is))
