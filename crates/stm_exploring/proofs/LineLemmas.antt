-- Adding events and lines one after the other, as loops do.
use Rattle.std.proofs.Common.{◌≡◌, ℕ, suc, ◌+◌, ◌<◌, List, [], ◌∷◌, ◌++◌, length, map, take, get_or, sym, ap, ◌∙◌, arith, append_assoc, append-nil}
use Rattle.std.proofs.lemmas.List.{map-append}
use Rattle.std.proofs.lemmas.List.Folds.{concat-append}
use Rattle.std.proofs.Math.Seq.{take-suc}
use Rattle.std.specs.List.{concat}

-- ---- the events of moves

-- ---- texts that are joined

-- one more
pub joined_next : {A : Type 0} (f : A → List ℕ) (xs : List A) (i : ℕ) (d : A) (front old new : List ℕ) → i < length xs →
    old ≡ front ++ concat (map f (take i xs)) → new ≡ old ++ f (get_or xs i d) → new ≡ front ++ concat (map f (take (i + 1) xs))
joined_next f xs i d front old new within so_far written =
    let x = get_or xs i d in
    let step : i + 1 ≡ suc i = omega arith in
    let more : map f (take (i + 1) xs) ≡ map f (take i xs) ++ f x ∷ [] =
    ap (λ (n : ℕ). map f (take n xs)) step ∙ ap (map f) (take-suc xs i d within) ∙ map-append f (take i xs) (x ∷ []) in
    let all : concat (map f (take (i + 1) xs)) ≡ concat (map f (take i xs)) ++ f x =
    ap concat more ∙ concat-append (map f (take i xs)) (f x ∷ []) ∙ ap (λ (ys : List ℕ). concat (map f (take i xs)) ++ ys) (append-nil (f x)) in
    written ∙ ap (λ (ys : List ℕ). ys ++ f x) so_far ∙ append_assoc front (concat (map f (take i xs))) (f x)
    ∙ ap (λ (ys : List ℕ). front ++ ys) (sym all)

-- the same, where the item has a name
pub joined_item : {A : Type 0} (f : A → List ℕ) (xs : List A) (i : ℕ) (x : A) (front old new : List ℕ) → i < length xs → x ≡ get_or xs i x →
    old ≡ front ++ concat (map f (take i xs)) → new ≡ old ++ f x → new ≡ front ++ concat (map f (take (i + 1) xs))
joined_item f xs i x front old new within at so_far written =
    joined_next f xs i x front old new within so_far (written ∙ ap (λ y. old ++ f y) at)
