-- The arguments that words are: one after the other, and by the words before the mark and those behind it.
use Rattle.std.proofs.Common.{◌≡◌, ◌+◌, ◌-◌, ◌++◌, ℕ, List, map, take, drop, sym, ◌∙◌, refl, ap₂, subst}
use Rattle.std.proofs.lemmas.List.{take-map, drop-map}
use Rattle.json.specs.Print.{quoted}
use Rattle.stm_terms.specs.declared.kinds.Kind.{Kind}
use Rattle.stm_compiling.specs.Programs.{arguments, arguments_from, before_mark}

module _ {A : Type 0} (text : A → List ℕ) (kinds : List Kind) (words : List A) where
  direct : (mark : ℕ) → mark ≡ before_mark (map text words)
      → arguments_from kinds 0 (take mark (map text words)) ++ map quoted (drop (mark + 1) (map text words)) ≡ arguments kinds (map text words)
  direct mark is = subst (λ (n : ℕ). arguments_from kinds 0 (take n (map text words)) ++ map quoted (drop (n + 1) (map text words)) ≡ arguments kinds (map text words)) (sym is) refl

  pub marked : (mark : ℕ) → mark ≡ before_mark (map text words)
      → arguments_from kinds 0 (map text (take mark words)) ++ map quoted (map text (drop (mark + 1) words)) ≡ arguments kinds (map text words)
  marked mark is =
      ap₂ (λ xs ys. arguments_from kinds 0 xs ++ map quoted ys) (sym (take-map text mark words)) (sym (drop-map text (mark + 1) words)) ∙ direct mark is
