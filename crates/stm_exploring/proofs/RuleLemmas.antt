-- Answers at levels, as loops come to them.
use Rattle.std.proofs.Common.{◌≡◌, ℕ, suc, ◌+◌, ◌<◌, List, [], ◌∷◌, ◌++◌, length, map, take, get_or, sym, ap, ap₂, ◌∙◌, arith}
use Rattle.std.proofs.lemmas.List.{map-append}
use Rattle.std.proofs.Math.Seq.{take-suc}

-- one more of those that are gone through has its answer
pub listed_more : {A B : Type 0} (of : A → B) (answers : List A) (a : A) (all : List B) (i : ℕ) (d : B) → i < length all → of a ≡ get_or all i d
    → map of answers ≡ take i all → map of (answers ++ a ∷ []) ≡ take (i + 1) all
listed_more of answers a all i d within is so_far =
    let step : i + 1 ≡ suc i = omega arith in
    map-append of answers (a ∷ [])
    ∙ ap₂ (λ xs x. xs ++ x ∷ []) so_far is
    ∙ sym (take-suc all i d within)
    ∙ sym (ap (λ (n : ℕ). take n all) step)
