-- Texts that a loop puts together, a piece an item.
use Rattle.std.proofs.Common.{◌≡◌, ℕ, zero, suc, ◌+◌, ◌<◌, ◌≤◌, List, [], ◌∷◌, ◌++◌, length, take, get_or, sym, ap, ◌∙◌, arith}
use Rattle.std.specs.List.{flat_map, range_with_len}
use Rattle.std.proofs.lemmas.List.{flat_map_more, take_more, take_all}

module _ {X : Type 0} (f : X → List ℕ) where
  -- the piece of one more item
  pub next : (before text new : List ℕ) (xs : List X) (i : ℕ) (x : X) → i < length xs → x ≡ get_or xs i x → text ≡ before ++ flat_map f (take i xs)
      → new ≡ text ++ f x → new ≡ before ++ flat_map f (take (i + 1) xs)
  next before text new xs i x within is so_far one =
      one
      ∙ ap (λ (t : List ℕ). t ++ f x) so_far
      ∙ flat_map_more f before (take i xs) x
      ∙ ap (λ (y : X). before ++ flat_map f (take i xs ++ y ∷ [])) is
      ∙ ap (λ (ys : List X). before ++ flat_map f ys) (sym (take_more xs i x within))

  -- once no item is left
  pub all : (before text : List ℕ) (xs : List X) (i : ℕ) → length xs ≤ i → text ≡ before ++ flat_map f (take i xs) → text ≡ before ++ flat_map f xs
  all before text xs i end so_far = so_far ∙ ap (λ (ys : List X). before ++ flat_map f ys) (take_all i xs end)

range_more : (a n : ℕ) → range_with_len a (n + 1) ≡ range_with_len a n ++ (a + n) ∷ []
range_more a zero = ap (λ (k : ℕ). k ∷ []) (omega arith)
range_more a (suc n) =
    let step : suc n + 1 ≡ suc (n + 1) = omega arith in
    let same : (a + 1) + n ≡ a + suc n = omega arith in
    ap (λ (k : ℕ). range_with_len a k) step
    ∙ ap (λ (r : List ℕ). a ∷ r) (range_more (a + 1) n)
    ∙ ap (λ (k : ℕ). a ∷ (range_with_len (a + 1) n ++ k ∷ [])) same

-- the piece of one more number
pub next_number : (f : ℕ → List ℕ) (text new : List ℕ) (a n k : ℕ) → k ≡ a + n → text ≡ flat_map f (range_with_len a n) → new ≡ text ++ f k
    → new ≡ flat_map f (range_with_len a (n + 1))
next_number f text new a n k is so_far one =
    one
    ∙ ap (λ (t : List ℕ). t ++ f k) so_far
    ∙ flat_map_more f [] (range_with_len a n) k
    ∙ ap (λ (j : ℕ). flat_map f (range_with_len a n ++ j ∷ [])) is
    ∙ ap (λ (ns : List ℕ). flat_map f ns) (sym (range_more a n))
