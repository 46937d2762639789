-- Where the arguments of a program begin, by the words of which a command line has the texts.
use Rattle.std.proofs.Common.{◌≡◌, ◌+◌, ◌-◌, ◌<◌, ◌≤◌, ℕ, suc, List, [], ◌∷◌, ◌∙◌, length, map, take, drop, slice_index_or, true, false, refl, sym, ap, ap₂, subst, arith}
use Rattle.std.proofs.lemmas.List.{take-map, drop-map, length-map}
use Rattle.stm_arguments.specs.Cutting.{before_arguments, cut, names_program, up_to_name, up_to_place}

module _ {A : Type 0} (text : A → List ℕ) where
  pub named : (words : List A) (file : ℕ) → file ≡ up_to_place (map text words) → file + up_to_place (map text (drop file words)) ≡ up_to_name (map text words)
  named words file is =
      ap (λ rest. file + up_to_place rest) (sym (drop-map text file words))
      ∙ subst (λ (n : ℕ). n + up_to_place (drop n (map text words)) ≡ up_to_name (map text words)) (sym is) refl

  pub fewer : (words : List A) → length words < 2 → before_arguments (map text words) ≡ length words
  fewer [] few = refl
  fewer (a ∷ []) few = refl
  fewer (a ∷ (b ∷ rest)) few = absurd (omega (arith, few))

  pub named_at : (words : List A) (d : A) → 2 ≤ length words → names_program (text (slice_index_or words 1 d)) ≡ true
      → before_arguments (map text words) ≡ 2 + up_to_name (map text (drop 2 words))
  named_at [] d two is = absurd (omega (arith, two))
  named_at (a ∷ []) d two is = absurd (omega (arith, two))
  named_at (a ∷ (b ∷ rest)) d two is = rw is refl

  pub other : (words : List A) (d : A) → 2 ≤ length words → names_program (text (slice_index_or words 1 d)) ≡ false
      → before_arguments (map text words) ≡ length words
  other [] d two is = absurd (omega (arith, two))
  other (a ∷ []) d two is = absurd (omega (arith, two))
  other (a ∷ (b ∷ rest)) d two is = rw is (ap (λ (n : ℕ). suc (suc n)) (length-map rest text))

  pub halves : (words : List A) (count : ℕ) → count ≡ before_arguments (map text words) → (front back : List A) → front ≡ take count words → back ≡ drop count words
      → (map text front, map text back) ≡ cut (map text words)
  halves words count is front back front_is back_is =
      ap₂ (λ (x y : List (List ℕ)). (x, y)) (ap (map text) front_is ∙ sym (take-map text count words)) (ap (map text) back_is ∙ sym (drop-map text count words))
      ∙ subst (λ (n : ℕ). (take n (map text words), drop n (map text words)) ≡ cut (map text words)) (sym is) refl
