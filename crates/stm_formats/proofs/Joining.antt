-- Adding texts one after the other, as a loop does.
use Rattle.std.proofs.Common.{◌≡◌, ℕ, suc, ◌+◌, ◌<◌, ◌≤◌, List, [], ◌∷◌, ◌++◌, length, map, drop, get_or, sym, ap, ◌∙◌, append_assoc, append-nil, arith}
use Rattle.std.proofs.lemmas.List.{drop_all}
use Rattle.std.proofs.Math.Seq.{drop-cons}
use Rattle.stm_formats.specs.FormatPieces.{joined}

module _ {A : Type 0} where
  -- what is left at an item
  pub left_at : (xs : List A) (i : ℕ) (x : A) → i < length xs → x ≡ get_or xs i x → drop i xs ≡ x ∷ drop (i + 1) xs
  left_at xs i x within is =
      let step : i + 1 ≡ suc i = omega arith in
      drop-cons xs i x within ∙ ap (λ (y : A). y ∷ drop (suc i) xs) (sym is) ∙ ap (λ (n : ℕ). x ∷ drop n xs) (sym step)

  -- the text of one more item
  pub next : (f : A → List ℕ) (out total : List ℕ) (xs : List A) (i : ℕ) (x : A) → i < length xs → x ≡ get_or xs i x
      → out ++ joined (map f (drop i xs)) ≡ total → (out ++ f x) ++ joined (map f (drop (i + 1) xs)) ≡ total
  next f out total xs i x within is so_far =
      append_assoc out (f x) (joined (map f (drop (i + 1) xs)))
      ∙ ap (λ (ys : List A). out ++ joined (map f ys)) (sym (left_at xs i x within is))
      ∙ so_far

  -- once no item is left
  pub all : (f : A → List ℕ) (before out : List ℕ) (xs : List A) (i : ℕ) → length xs ≤ i
      → out ++ joined (map f (drop i xs)) ≡ before ++ joined (map f xs) → out ≡ before ++ joined (map f xs)
  all f before out xs i end so_far =
      sym (append-nil out) ∙ ap (λ (ys : List A). out ++ joined (map f ys)) (sym (drop_all i xs end)) ∙ so_far

  -- the same of lists that a recursion makes of what is left
  pub next_of : {B : Type 0} (g : List A → List B) (out total head rest : List B) (xs : List A) (i : ℕ) (x : A) → i < length xs → x ≡ get_or xs i x
      → g (x ∷ drop (i + 1) xs) ≡ head ++ rest → out ++ g (drop i xs) ≡ total → (out ++ head) ++ rest ≡ total
  next_of g out total head rest xs i x within is opens so_far =
      append_assoc out head rest ∙ ap (λ ys. out ++ ys) (sym opens) ∙ ap (λ (ys : List A). out ++ g ys) (sym (left_at xs i x within is)) ∙ so_far

  pub all_of : {B : Type 0} (g : List A → List B) (before out : List B) (xs : List A) (i : ℕ) → length xs ≤ i → g [] ≡ []
      → out ++ g (drop i xs) ≡ before ++ g xs → out ≡ before ++ g xs
  all_of g before out xs i end none so_far =
      sym (append-nil out) ∙ ap (λ ys. out ++ ys) (sym none) ∙ ap (λ (ys : List A). out ++ g ys) (sym (drop_all i xs end)) ∙ so_far
