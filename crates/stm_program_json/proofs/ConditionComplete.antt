-- What data spell of a condition is read, where it is within the limits.
use Rattle.std.proofs.Common.{◌≡◌, ℕ, zero, suc, ◌+◌, ◌≤◌, List, [], ◌∷◌, Option, Some, Ok, refl, ap, ◌∙◌, arith}
use Rattle.serde_json.specs.Data.{Data}
use Rattle.serde_json.specs.View.{items_of}
use Rattle.stm_program_json.specs.declared.words.CondWord.{CondWord}
use Rattle.stm_program_json.specs.declared.words.CondWord.TheVariants as word
use Rattle.stm_program_json.specs.declared.words.Comparison.{Comparison}
use Rattle.stm_program_json.specs.declared.words.Comparison.TheVariants as comparison
use Rattle.stm_program_json.specs.declared.words.Connective.{Connective}
use Rattle.stm_program_json.specs.declared.words.Connective.TheVariants as connective
use Rattle.stm_program.specs.Syntax.{Expression, Condition, Equal, Less, Not, And, Or}
use Rattle.stm_program.specs.Size.{expression_nodes, condition_nodes}
use Rattle.stm_program.specs.Limits.{expression_depth, condition_depth, ExpressionInRange, ConditionInRange}
use Rattle.stm_program_json.specs.Words.{condition_word}
use Rattle.stm_program_json.specs.WordTexts.{comparison_text, connective_text, condition_text}
use Rattle.stm_json.specs.Elements.{worded}
use Rattle.stm_program_json.specs.Reading.{Read, comparison_of, connective_of, condition_named, condition_array, expression_at, condition_at}
use Rattle.stm_json.specs.Parts.{spelled}
use Rattle.stm_program_json.specs.Grammar.{SpellsExpression, SpellsCondition}
use Rattle.stm_program.proofs.LimitLemmas.{condition_nodes-positive, condition_depth-positive}
use Rattle.stm_program_json.proofs.WordLemmas.{condition_word-text}
use Rattle.stm_program_json.proofs.ExpressionComplete.{one_part-reads, two_parts-reads, expression_reads}

module _ (l : ℕ) (read : ℕ → Data → Read Condition)
    (reads : (r m : ℕ) (d : Data) (c : Condition) → SpellsCondition d c → condition_depth c ≤ l → ConditionInRange c → r ≡ m + condition_nodes c
    → read r d ≡ Ok (c, m)) where
  named : (r : ℕ) (w : List ℕ) (parts : List Data) (x : CondWord) → w ≡ condition_text x
      → condition_array (expression_at l) read r (worded (spelled w parts)) ≡ condition_named (expression_at l) read r (Some x) (items_of parts)
  named r w parts x h = ap (λ (o : Option CondWord). condition_named (expression_at l) read r o (items_of parts)) (ap condition_word h ∙ condition_word-text x)

  compared : (o : Comparison) (r m : ℕ) (d a b : Data) (e f : Expression) → d ≡ spelled (comparison_text o) (a ∷ b ∷ []) → SpellsExpression a e
      → SpellsExpression b f
      → expression_depth e ≤ l → expression_depth f ≤ l → ExpressionInRange e → ExpressionInRange f → r ≡ m + expression_nodes e + expression_nodes f
      → condition_array (expression_at l) read r (worded d) ≡ Ok (comparison_of o e f, m)
  compared o r m d a b e f is s t p q g i h =
      ap (λ (c : Data). condition_array (expression_at l) read r (worded c)) is ∙ named r (comparison_text o) (a ∷ b ∷ []) (word.Comparison o) refl
      ∙ two_parts-reads (expression_at l) (comparison_of o) r (m + expression_nodes f) m a b e f
      (expression_reads l r (m + expression_nodes f) a e s p g (omega arith)) (expression_reads l (m + expression_nodes f) m b f t q i refl)

  joined : (o : Connective) (r m : ℕ) (d a b : Data) (e f : Condition) → d ≡ spelled (connective_text o) (a ∷ b ∷ []) → SpellsCondition a e
      → SpellsCondition b f
      → condition_depth e ≤ l → condition_depth f ≤ l → ConditionInRange e → ConditionInRange f → r ≡ m + condition_nodes e + condition_nodes f
      → condition_array (expression_at l) read r (worded d) ≡ Ok (connective_of o e f, m)
  joined o r m d a b e f is s t p q g i h =
      ap (λ (c : Data). condition_array (expression_at l) read r (worded c)) is ∙ named r (connective_text o) (a ∷ b ∷ []) (word.Connective o) refl
      ∙ two_parts-reads read (connective_of o) r (m + condition_nodes f) m a b e f (reads r (m + condition_nodes f) a e s p g (omega arith))
      (reads (m + condition_nodes f) m b f t q i refl)

  array_reads : (r m : ℕ) (d : Data) (c : Condition) → SpellsCondition d c → condition_depth c ≤ suc l → ConditionInRange c → suc r ≡ m + condition_nodes c
      → condition_array (expression_at l) read r (worded d) ≡ Ok (c, m)
  array_reads r m d (Equal x y) (a, b, is, s, t) f g h = compared comparison.Equal r m d a b x y is s t (omega arith) (omega arith) g.0 g.1 (omega arith)
  array_reads r m d (Less x y) (a, b, is, s, t) f g h = compared comparison.Less r m d a b x y is s t (omega arith) (omega arith) g.0 g.1 (omega arith)
  array_reads r m d (Not c) (a, is, s) f g h =
      ap (λ (e : Data). condition_array (expression_at l) read r (worded e)) is ∙ named r (condition_text word.Not) (a ∷ []) word.Not refl
      ∙ one_part-reads read Not r m a c (reads r m a c s (omega arith) g (omega arith))
  array_reads r m d (And x y) (a, b, is, s, t) f g h = joined connective.And r m d a b x y is s t (omega arith) (omega arith) g.0 g.1 (omega arith)
  array_reads r m d (Or x y) (a, b, is, s, t) f g h = joined connective.Or r m d a b x y is s t (omega arith) (omega arith) g.0 g.1 (omega arith)

pub condition_reads : (l r m : ℕ) (d : Data) (c : Condition) → SpellsCondition d c → condition_depth c ≤ l → ConditionInRange c → r ≡ m + condition_nodes c
    → condition_at l r d ≡ Ok (c, m)
unfolding condition_at
condition_reads zero r m d c s f g h = absurd (omega (arith, condition_depth-positive c))
condition_reads (suc l) zero m d c s f g h = absurd (omega (arith, condition_nodes-positive c))
condition_reads (suc l) (suc r) m d c s f g h = array_reads l (condition_at l) (condition_reads l) r m d c s f g h
