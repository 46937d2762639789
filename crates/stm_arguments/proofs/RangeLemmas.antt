-- The two keys of a range, by how many words there are.
use Rattle.std.proofs.Common.{◌≡◌, ℕ, List, [], ◌∷◌, Some, None, length, slice_index_or, map, refl, arith}
use Rattle.stm_arguments.specs.Asking.{range_in}

-- of two words
pub of_two : {A : Type 0} (text : A → List ℕ) (words : List A) (d e : A) → length words ≡ 2
    → Some (text (slice_index_or words 0 d), text (slice_index_or words 1 e)) ≡ range_in (map text words)
of_two text [] d e two = absurd (omega (arith, two))
of_two text (a ∷ []) d e two = absurd (omega (arith, two))
of_two text (a ∷ b ∷ []) d e two = refl
of_two text (a ∷ b ∷ c ∷ rest) d e two = absurd (omega (arith, two))

-- of more, or fewer
pub of_others : {A : Type 0} (text : A → List ℕ) (words : List A) → (length words ≡ 2 → ⊥) → None ≡ range_in (map text words)
of_others text [] other = refl
of_others text (a ∷ []) other = refl
of_others text (a ∷ b ∷ []) other = absurd (other refl)
of_others text (a ∷ b ∷ c ∷ rest) other = refl
