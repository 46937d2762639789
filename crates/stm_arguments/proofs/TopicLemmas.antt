-- The topic of help that a command line asks for, by how many words it has.
use Rattle.std.proofs.Common.{◌≡◌, ℕ, List, [], ◌∷◌, None, length, slice_index_or, map, refl, arith}
use Rattle.stm_arguments.specs.HelpTopics.{topic_by, topic_named}

-- of three words
pub of_three : {A : Type 0} (text : A → List ℕ) (words : List A) (d e : A) → length words ≡ 3
    → topic_named (map text words) ≡ topic_by (text (slice_index_or words 1 d)) (text (slice_index_or words 2 e))
of_three text [] d e three = absurd (omega (arith, three))
of_three text (a ∷ []) d e three = absurd (omega (arith, three))
of_three text (a ∷ b ∷ []) d e three = absurd (omega (arith, three))
of_three text (a ∷ b ∷ c ∷ []) d e three = refl
of_three text (a ∷ b ∷ c ∷ x ∷ rest) d e three = absurd (omega (arith, three))

-- of more, or fewer
pub of_others : {A : Type 0} (text : A → List ℕ) (words : List A) → (length words ≡ 3 → ⊥) → topic_named (map text words) ≡ None
of_others text [] other = refl
of_others text (a ∷ []) other = refl
of_others text (a ∷ b ∷ []) other = refl
of_others text (a ∷ b ∷ c ∷ []) other = absurd (other refl)
of_others text (a ∷ b ∷ c ∷ x ∷ rest) other = refl
