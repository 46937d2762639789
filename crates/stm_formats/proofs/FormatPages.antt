-- A page, part after part.
use Rattle.std.proofs.Common.{◌≡◌, ℕ, List, [], ◌∷◌, ◌++◌, sym, ap, ◌∙◌, append_assoc, append-nil}
use Rattle.stm_formats.specs.FormatPieces.{joined}

-- two parts after a text, and what follows
two : (a b : List ℕ) (rest : List (List ℕ)) → (a ++ b) ++ joined rest ≡ a ++ joined (b ∷ rest)
two a b rest = append_assoc a b (joined rest)

pub parts : (a b c d e f g h : List ℕ) → ((((((a ++ b) ++ c) ++ d) ++ e) ++ f) ++ g) ++ h ≡ joined (a ∷ b ∷ c ∷ d ∷ e ∷ f ∷ g ∷ h ∷ [])
parts a b c d e f g h =
    ap (λ (t : List ℕ). ((((((a ++ b) ++ c) ++ d) ++ e) ++ f) ++ g) ++ t) (sym (append-nil h))
    ∙ two (((((a ++ b) ++ c) ++ d) ++ e) ++ f) g (h ∷ [])
    ∙ two ((((a ++ b) ++ c) ++ d) ++ e) f (g ∷ h ∷ [])
    ∙ two (((a ++ b) ++ c) ++ d) e (f ∷ g ∷ h ∷ [])
    ∙ two ((a ++ b) ++ c) d (e ∷ f ∷ g ∷ h ∷ [])
    ∙ two (a ++ b) c (d ∷ e ∷ f ∷ g ∷ h ∷ [])
    ∙ two a b (c ∷ d ∷ e ∷ f ∷ g ∷ h ∷ [])

-- the parts of a row, after what was written
pub row_parts : (o a b c d e : List ℕ) → ((((o ++ a) ++ b) ++ c) ++ d) ++ e ≡ o ++ joined (a ∷ b ∷ c ∷ d ∷ e ∷ [])
row_parts o a b c d e =
    ap (λ (t : List ℕ). ((((o ++ a) ++ b) ++ c) ++ d) ++ t) (sym (append-nil e))
    ∙ two (((o ++ a) ++ b) ++ c) d (e ∷ [])
    ∙ two ((o ++ a) ++ b) c (d ∷ e ∷ [])
    ∙ two (o ++ a) b (c ∷ d ∷ e ∷ [])
    ∙ append_assoc o a (joined (b ∷ c ∷ d ∷ e ∷ []))
