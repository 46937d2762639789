-- The marks of a condition beside what is read of it.
use Rattle.std.proofs.Common.{◌≡◌, ℕ, zero, suc, ◌+◌, List, ◌++◌, Option, Some, None, ◌∙◌, arith}
use Rattle.serde_json.specs.Data.{Data, string, array, Items, no_items, item}
use Rattle.stm_json.specs.declared.cause.Cause.TheVariants.{Shape}
use Rattle.stm_program_json.specs.declared.words.CondWord.{CondWord}
use Rattle.stm_program_json.specs.declared.words.CondWord.TheVariants as word
use Rattle.stm_program.specs.Syntax.{Condition, Not}
use Rattle.stm_program_json.specs.Words.{condition_word}
use Rattle.stm_json.specs.Elements.{worded}
use Rattle.stm_program_json.specs.Reading.{Read, comparison_of, connective_of, condition_named, condition_array, expression_at, condition_at}
use Rattle.stm_json.specs.Faults.{at}
use Rattle.stm_program_json.specs.FirstFault.{Mark, wrong, first_of_marks}
use Rattle.stm_program_json.proofs.ReaderMarks.{expression_marks, condition_of_one, condition_of_two, condition_inner, condition_marks}
use Rattle.stm_program_json.proofs.MarkLemmas.{after, wrong_is, too_deep, too_many, one_node}
use Rattle.stm_program_json.proofs.ExpressionMarks.{one_marked, two_marked, expression_marked}
use Rattle.stm_program.specs.declared.limits.TheConstants.{MAX_DEPTH}

module _ (l k : ℕ) (depth : l + suc k ≡ suc MAX_DEPTH) (read : ℕ → Data → Read Condition)
    (sub : (q : List ℕ) (s : ℕ) (d : Data) (next : List Mark) → first_of_marks s (condition_marks (suc k) q d ++ next) ≡ after q (read s d) next) where
  none_marked : (p : List ℕ) (r : ℕ) (o : Option CondWord) (rest : List Mark)
      → first_of_marks r (wrong p Shape ++ rest) ≡ after p (condition_named (expression_at l) read r o no_items) rest
  none_marked p r None rest = wrong_is p Shape r rest
  none_marked p r (Some (word.Comparison c)) rest = wrong_is p Shape r rest
  none_marked p r (Some word.Not) rest = wrong_is p Shape r rest
  none_marked p r (Some (word.Connective c)) rest = wrong_is p Shape r rest

  of_one : (p : List ℕ) (r : ℕ) (o : Option CondWord) (a : Data) (rest : List Mark)
      → first_of_marks r (condition_of_one p o (condition_marks (suc k) (at p 1) a) ++ rest)
      ≡ after p (condition_named (expression_at l) read r o (item a no_items)) rest
  of_one p r None a rest = wrong_is p Shape r rest
  of_one p r (Some (word.Comparison c)) a rest = wrong_is p Shape r rest
  of_one p r (Some word.Not) a rest = one_marked read (condition_marks (suc k)) Not p r a rest sub
  of_one p r (Some (word.Connective c)) a rest = wrong_is p Shape r rest

  of_two : (p : List ℕ) (r : ℕ) (o : Option CondWord) (a b : Data) (rest : List Mark)
      → first_of_marks r (condition_of_two p o (expression_marks (suc k) (at p 1) a ++ expression_marks (suc k) (at p 2) b)
      (condition_marks (suc k) (at p 1) a ++ condition_marks (suc k) (at p 2) b) ++ rest)
      ≡ after p (condition_named (expression_at l) read r o (item a (item b no_items))) rest
  of_two p r None a b rest = wrong_is p Shape r rest
  of_two p r (Some (word.Comparison c)) a b rest = two_marked (expression_at l) (expression_marks (suc k)) (comparison_of c) p r a b rest
      (expression_marked l (suc k) depth)
  of_two p r (Some word.Not) a b rest = wrong_is p Shape r rest
  of_two p r (Some (word.Connective c)) a b rest = two_marked read (condition_marks (suc k)) (connective_of c) p r a b rest sub

  of_more : (p : List ℕ) (r : ℕ) (o : Option CondWord) (a b c : Data) (ds : Items) (rest : List Mark)
      → first_of_marks r (wrong p Shape ++ rest) ≡ after p (condition_named (expression_at l) read r o (item a (item b (item c ds)))) rest
  of_more p r None a b c ds rest = wrong_is p Shape r rest
  of_more p r (Some (word.Comparison o)) a b c ds rest = wrong_is p Shape r rest
  of_more p r (Some word.Not) a b c ds rest = wrong_is p Shape r rest
  of_more p r (Some (word.Connective o)) a b c ds rest = wrong_is p Shape r rest

  inner_marked : (p : List ℕ) (r : ℕ) (d : Data) (rest : List Mark)
      → first_of_marks r (condition_inner k p d ++ rest) ≡ after p (condition_array (expression_at l) read r (worded d)) rest
  inner_marked p r (array (item (string w) no_items)) rest = none_marked p r (condition_word w) rest
  inner_marked p r (array (item (string w) (item a no_items))) rest = of_one p r (condition_word w) a rest
  inner_marked p r (array (item (string w) (item a (item b no_items)))) rest = of_two p r (condition_word w) a b rest
  inner_marked p r (array (item (string w) (item a (item b (item c ds))))) rest = of_more p r (condition_word w) a b c ds rest
  inner_marked p r _ rest = wrong_is p Shape r rest

pub condition_marked : (l k : ℕ) → l + k ≡ suc MAX_DEPTH → (p : List ℕ) (r : ℕ) (d : Data) (rest : List Mark)
    → first_of_marks r (condition_marks k p d ++ rest) ≡ after p (condition_at l r d) rest
unfolding condition_at
condition_marked zero k h p r d rest = too_deep k r p (condition_inner k p d) rest (omega arith)
condition_marked (suc l) k h p zero d rest = too_many k p (condition_inner k p d) rest (omega arith)
condition_marked (suc l) k h p (suc r) d rest =
    one_node k r p (condition_inner k p d ++ rest) (omega arith)
    ∙ inner_marked l k (omega arith) (condition_at l) (λ q s e next. condition_marked l (suc k) (omega arith) q s e next) p r d rest
