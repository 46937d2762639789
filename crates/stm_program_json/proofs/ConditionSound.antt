-- What is read of a condition is spelled by the data, and is within the limits.
use Rattle.std.proofs.Common.{◌≡◌, ℕ, zero, suc, ◌+◌, List, [], ◌∷◌, Option, Some, None, Ok, refl, sym, subst, arith, codes}
use Rattle.serde_json.specs.Data.{Data, Items}
use Rattle.stm_program_json.specs.declared.words.CondWord.{CondWord}
use Rattle.stm_program_json.specs.declared.words.CondWord.TheVariants as word
use Rattle.stm_program_json.specs.declared.words.Comparison.{Comparison}
use Rattle.stm_program_json.specs.declared.words.Comparison.TheVariants as comparison
use Rattle.stm_program_json.specs.declared.words.Connective.{Connective}
use Rattle.stm_program_json.specs.declared.words.Connective.TheVariants as connective
use Rattle.stm_program.specs.Syntax.{Expression, Condition, Not}
use Rattle.stm_program.specs.Size.{expression_nodes, condition_nodes}
use Rattle.stm_program.specs.Limits.{ExpressionFits, ConditionFits}
use Rattle.stm_program_json.specs.Words.{condition_word}
use Rattle.stm_program_json.specs.WordTexts.{comparison_text, connective_text}
use Rattle.stm_json.specs.Elements.{worded, one_of, two_of}
use Rattle.stm_program_json.specs.Reading.{Read, comparison_of, connective_of, condition_named, condition_array, expression_at, condition_at}
use Rattle.stm_json.specs.Parts.{spelled}
use Rattle.stm_program_json.specs.Grammar.{SpellsExpression, SpellsCondition}
use Rattle.stm_program_json.proofs.OutcomeLemmas.{one_part_ok, two_parts_ok}
use Rattle.stm_program_json.proofs.WordLemmas.{condition_word-is}
use Rattle.stm_json.proofs.ElementLemmas.{one_of-is, two_of-is}
use Rattle.stm_program_json.proofs.ExpressionSound.{expression_sound, words_and}

-- a condition that was read with these levels and nodes left
pub record ConditionRead (levels room : ℕ) (d : Data) (x : Condition × ℕ) : Type 0 where
  pub spelled : SpellsCondition d x.0
  pub fits : ConditionFits levels room x.0
  pub left : x.1 + condition_nodes x.0 ≡ room

comparison_spelled : (o : Comparison) (d a b : Data) (e f : Expression) → d ≡ spelled (comparison_text o) (a ∷ b ∷ []) → SpellsExpression a e
    → SpellsExpression b f → SpellsCondition d (comparison_of o e f)
comparison_spelled comparison.Equal d a b e f h s t = (a, b, h, s, t)
comparison_spelled comparison.Less d a b e f h s t = (a, b, h, s, t)

comparison_fits : (o : Comparison) (l r m : ℕ) (e f : Expression) → ExpressionFits l r e → m + expression_nodes e ≡ r → ExpressionFits l m f
    → ConditionFits (suc l) (suc r) (comparison_of o e f)
comparison_fits comparison.Equal l r m e f p h q = record {
  depth = omega (arith, p.depth, q.depth);
  nodes = omega (arith, h, q.nodes);
  ranges =
      (p.ranges, q.ranges);
}
comparison_fits comparison.Less l r m e f p h q = record {
  depth = omega (arith, p.depth, q.depth);
  nodes = omega (arith, h, q.nodes);
  ranges =
      (p.ranges, q.ranges);
}

comparison_nodes : (o : Comparison) (e f : Expression) → condition_nodes (comparison_of o e f) ≡ 1 + expression_nodes e + expression_nodes f
comparison_nodes comparison.Equal e f = refl
comparison_nodes comparison.Less e f = refl

connective_spelled : (o : Connective) (d a b : Data) (e f : Condition) → d ≡ spelled (connective_text o) (a ∷ b ∷ []) → SpellsCondition a e
    → SpellsCondition b f → SpellsCondition d (connective_of o e f)
connective_spelled connective.And d a b e f h s t = (a, b, h, s, t)
connective_spelled connective.Or d a b e f h s t = (a, b, h, s, t)

connective_fits : (o : Connective) (l r m : ℕ) (e f : Condition) → ConditionFits l r e → m + condition_nodes e ≡ r → ConditionFits l m f
    → ConditionFits (suc l) (suc r) (connective_of o e f)
connective_fits connective.And l r m e f p h q = record {
  depth = omega (arith, p.depth, q.depth);
  nodes = omega (arith, h, q.nodes);
  ranges =
      (p.ranges, q.ranges);
}
connective_fits connective.Or l r m e f p h q = record {
  depth = omega (arith, p.depth, q.depth);
  nodes = omega (arith, h, q.nodes);
  ranges =
      (p.ranges, q.ranges);
}

connective_nodes : (o : Connective) (e f : Condition) → condition_nodes (connective_of o e f) ≡ 1 + condition_nodes e + condition_nodes f
connective_nodes connective.And e f = refl
connective_nodes connective.Or e f = refl

along : (l r : ℕ) (d : Data) (x y : Condition × ℕ) → y ≡ x → ConditionRead l r d x → ConditionRead l r d y
along l r d x y e = subst (λ (z : Condition × ℕ). ConditionRead l r d z) (sym e)

module _ (l : ℕ) (read : ℕ → Data → Read Condition) (sound : (r : ℕ) (d : Data) (x : Condition × ℕ) → read r d ≡ Ok x → ConditionRead l r d x) where
  comparison_sound : (r : ℕ) (d : Data) (p : List ℕ × Items) (o : Comparison) (y : Condition × ℕ) → worded d ≡ Some p → p.0 ≡ comparison_text o
      → condition_named (expression_at l) read r (Some (word.Comparison o)) p.1 ≡ Ok y → ConditionRead (suc l) (suc r) d y
  comparison_sound r d p o y w t h =
      let q = two_parts_ok (expression_at l) (comparison_of o) r (two_of p.1) y h in
      let s = expression_sound l r q.0.0 q.1 q.4 in
      let u = expression_sound l q.1.1 q.0.1 q.2 q.5 in
      along (suc l) (suc r) d (comparison_of o q.1.0 q.2.0, q.2.1) y q.6
      record {
        spelled = comparison_spelled o d q.0.0 q.0.1 q.1.0 q.2.0
            (words_and d p (comparison_text o) (q.0.0 ∷ q.0.1 ∷ []) w t (two_of-is p.1 q.0 q.3)) s.spelled u.spelled;
        fits = comparison_fits o l r q.1.1 q.1.0 q.2.0 s.fits s.left u.fits;
        left = omega (arith, comparison_nodes o q.1.0 q.2.0, s.left, u.left);
      }

  negation_sound : (r : ℕ) (d : Data) (p : List ℕ × Items) (y : Condition × ℕ) → worded d ≡ Some p → p.0 ≡ codes "not"
      → condition_named (expression_at l) read r (Some word.Not) p.1 ≡ Ok y → ConditionRead (suc l) (suc r) d y
  negation_sound r d p y w t h =
      let q = one_part_ok read Not r (one_of p.1) y h in
      let s = sound r q.0 q.1 q.3 in
      along (suc l) (suc r) d (Not q.1.0, q.1.1) y q.4
      record {
        spelled = (q.0, words_and d p (codes "not") (q.0 ∷ []) w t (one_of-is p.1 q.0 q.2), s.spelled);
        fits = record { depth = omega (arith, s.fits.depth); nodes = omega (arith, s.fits.nodes); ranges = s.fits.ranges };
        left = omega (arith, s.left);
      }

  connective_sound : (r : ℕ) (d : Data) (p : List ℕ × Items) (o : Connective) (y : Condition × ℕ) → worded d ≡ Some p → p.0 ≡ connective_text o
      → condition_named (expression_at l) read r (Some (word.Connective o)) p.1 ≡ Ok y → ConditionRead (suc l) (suc r) d y
  connective_sound r d p o y w t h =
      let q = two_parts_ok read (connective_of o) r (two_of p.1) y h in
      let s = sound r q.0.0 q.1 q.4 in
      let u = sound q.1.1 q.0.1 q.2 q.5 in
      along (suc l) (suc r) d (connective_of o q.1.0 q.2.0, q.2.1) y q.6
      record {
        spelled = connective_spelled o d q.0.0 q.0.1 q.1.0 q.2.0
            (words_and d p (connective_text o) (q.0.0 ∷ q.0.1 ∷ []) w t (two_of-is p.1 q.0 q.3)) s.spelled u.spelled;
        fits = connective_fits o l r q.1.1 q.1.0 q.2.0 s.fits s.left u.fits;
        left = omega (arith, connective_nodes o q.1.0 q.2.0, s.left, u.left);
      }

  named_sound : (r : ℕ) (d : Data) (p : List ℕ × Items) (o : Option CondWord) (y : Condition × ℕ) → worded d ≡ Some p → condition_word p.0 ≡ o
      → condition_named (expression_at l) read r o p.1 ≡ Ok y → ConditionRead (suc l) (suc r) d y
  named_sound r d p None y w e h = cc
  named_sound r d p (Some (word.Comparison o)) y w e h = comparison_sound r d p o y w (condition_word-is p.0 (word.Comparison o) e) h
  named_sound r d p (Some word.Not) y w e h = negation_sound r d p y w (condition_word-is p.0 word.Not e) h
  named_sound r d p (Some (word.Connective o)) y w e h = connective_sound r d p o y w (condition_word-is p.0 (word.Connective o) e) h

  array_sound : (r : ℕ) (d : Data) (o : Option (List ℕ × Items)) (y : Condition × ℕ) → worded d ≡ o → condition_array (expression_at l) read r o ≡ Ok y
      → ConditionRead (suc l) (suc r) d y
  array_sound r d None y e h = cc
  array_sound r d (Some p) y e h = named_sound r d p (condition_word p.0) y e refl h

pub condition_sound : (l r : ℕ) (d : Data) (x : Condition × ℕ) → condition_at l r d ≡ Ok x → ConditionRead l r d x
unfolding condition_at
condition_sound zero r d x h = cc
condition_sound (suc l) zero d x h = cc
condition_sound (suc l) (suc r) d x h = array_sound l (condition_at l) (condition_sound l) r d (worded d) x refl h
