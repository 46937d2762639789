-- The marks of an expression beside what is read of it.
use Rattle.std.proofs.Common.{◌≡◌, ℕ, zero, suc, ◌+◌, ℤ, List, [], ◌++◌, length, Bool, true, false, cond, Option, Some, None, Ok, Err, refl, ◌∙◌, arith, leb}
use Rattle.std.proofs.Common.{lit<}
use Rattle.serde_json.specs.Data.{Data, number, string, array, Items, no_items, item}
use Rattle.stm_json.specs.declared.cause.Cause.TheVariants.{Shape, TooLong}
use Rattle.stm_program_json.specs.declared.words.ExprWord.{ExprWord}
use Rattle.stm_program_json.specs.declared.words.ExprWord.TheVariants as word
use Rattle.stm_program.specs.Syntax.{Expression, Text, Number}
use Rattle.stm_program_json.specs.Words.{expression_word}
use Rattle.stm_json.specs.Outcome.{Outcome, bad, ◌>>=◌}
use Rattle.stm_json.specs.Elements.{whole_number, number_up_to}
use Rattle.stm_program_json.specs.Reading.{Read, one_part, two_parts, unary_of, binary_of, expression_named, expression_body, expression_at}
use Rattle.stm_json.specs.Faults.{at}
use Rattle.stm_program_json.specs.FirstFault.{Mark, wrong, first_of_marks}
use Rattle.stm_program_json.proofs.ReaderMarks.{expression_of_one, expression_of_two, expression_inner, expression_marks}
use Rattle.stm_program_json.proofs.MarkLemmas.{after, after_number, wrong_is, too_deep, too_many, one_node, whole_marked, number_marked, part_then, number_then}
use Rattle.stm_program_json.proofs.MarkLemmas.{behind}
use Rattle.stm_program.specs.declared.limits.TheConstants.{MAX_DEPTH, MAX_TEXT, MAX_VARIABLE}

-- one part, marked
pub one_marked : {A B : Type 0} (read : ℕ → Data → Read A) (marks : List ℕ → Data → List Mark) (make : A → B) (p : List ℕ) (r : ℕ) (a : Data) (rest : List Mark)
    → ((q : List ℕ) (s : ℕ) (d : Data) (next : List Mark) → first_of_marks s (marks q d ++ next) ≡ after q (read s d) next)
    → first_of_marks r (marks (at p 1) a ++ rest) ≡ after p (one_part read make r (Some a)) rest
one_marked read marks make p r a rest sub = part_then p 1 (read r a) _ _ rest rest (sub (at p 1) r a rest) (λ x e. refl)

-- two parts, marked
pub two_marked : {A B : Type 0} (read : ℕ → Data → Read A) (marks : List ℕ → Data → List Mark) (make : A → A → B) (p : List ℕ) (r : ℕ) (a b : Data)
    (rest : List Mark)
    → ((q : List ℕ) (s : ℕ) (d : Data) (next : List Mark) → first_of_marks s (marks q d ++ next) ≡ after q (read s d) next)
    → first_of_marks r ((marks (at p 1) a ++ marks (at p 2) b) ++ rest) ≡ after p (two_parts read make r (Some (a, b))) rest
two_marked read marks make p r a b rest sub =
    behind r (marks (at p 1) a) (marks (at p 2) b) rest
    ∙ part_then p 1 (read r a) _ _ (marks (at p 2) b ++ rest) rest (sub (at p 1) r a (marks (at p 2) b ++ rest))
    (λ x e. part_then p 2 (read x.1 b) _ _ rest rest (sub (at p 2) x.1 b rest) (λ y f. refl))

literal_marked : (p : List ℕ) (r : ℕ) (s : List ℕ) (b : Bool) (rest : List Mark)
    → first_of_marks r (cond b [] (wrong p TooLong) ++ rest) ≡ after p (cond b (Ok (Text s, r)) (bad TooLong)) rest
literal_marked p r s true rest = refl
literal_marked p r s false rest = wrong_is p TooLong r rest

number_read : (p : List ℕ) (r : ℕ) (reading : Outcome ℤ) (rest : List Mark) → after_number p r reading rest ≡ after p (reading >>= λ z. Ok (Number z, r)) rest
number_read p r (Ok z) rest = refl
number_read p r (Err f) rest = refl

module _ (l k : ℕ) (read : ℕ → Data → Read Expression)
    (sub : (q : List ℕ) (s : ℕ) (d : Data) (next : List Mark) → first_of_marks s (expression_marks (suc k) q d ++ next) ≡ after q (read s d) next) where
  none_marked : (p : List ℕ) (r : ℕ) (o : Option ExprWord) (rest : List Mark)
      → first_of_marks r (wrong p Shape ++ rest) ≡ after p (expression_named read r o no_items) rest
  none_marked p r None rest = wrong_is p Shape r rest
  none_marked p r (Some word.Var) rest = wrong_is p Shape r rest
  none_marked p r (Some (word.Unary u)) rest = wrong_is p Shape r rest
  none_marked p r (Some (word.Binary b)) rest = wrong_is p Shape r rest

  of_one : (p : List ℕ) (r : ℕ) (o : Option ExprWord) (a : Data) (rest : List Mark)
      → first_of_marks r (expression_of_one p o a (expression_marks (suc k) (at p 1) a) ++ rest) ≡ after p (expression_named read r o (item a no_items)) rest
  of_one p r None a rest = wrong_is p Shape r rest
  of_one p r (Some word.Var) a rest =
      number_then p 1 r (number_up_to MAX_VARIABLE a) _ _ rest rest (number_marked (at p 1) MAX_VARIABLE r a rest (lit< tt)) (λ x e. refl)
  of_one p r (Some (word.Unary u)) a rest = one_marked read (expression_marks (suc k)) (unary_of u) p r a rest sub
  of_one p r (Some (word.Binary b)) a rest = wrong_is p Shape r rest

  of_two : (p : List ℕ) (r : ℕ) (o : Option ExprWord) (a b : Data) (rest : List Mark)
      → first_of_marks r (expression_of_two p o (expression_marks (suc k) (at p 1) a ++ expression_marks (suc k) (at p 2) b) ++ rest)
      ≡ after p (expression_named read r o (item a (item b no_items))) rest
  of_two p r None a b rest = wrong_is p Shape r rest
  of_two p r (Some word.Var) a b rest = wrong_is p Shape r rest
  of_two p r (Some (word.Unary u)) a b rest = wrong_is p Shape r rest
  of_two p r (Some (word.Binary o)) a b rest = two_marked read (expression_marks (suc k)) (binary_of o) p r a b rest sub

  of_more : (p : List ℕ) (r : ℕ) (o : Option ExprWord) (a b c : Data) (ds : Items) (rest : List Mark)
      → first_of_marks r (wrong p Shape ++ rest) ≡ after p (expression_named read r o (item a (item b (item c ds)))) rest
  of_more p r None a b c ds rest = wrong_is p Shape r rest
  of_more p r (Some word.Var) a b c ds rest = wrong_is p Shape r rest
  of_more p r (Some (word.Unary u)) a b c ds rest = wrong_is p Shape r rest
  of_more p r (Some (word.Binary o)) a b c ds rest = wrong_is p Shape r rest

  inner_marked : (p : List ℕ) (r : ℕ) (d : Data) (rest : List Mark)
      → first_of_marks r (expression_inner k p d ++ rest) ≡ after p (expression_body read r d) rest
  unfolding expression_body
  inner_marked p r (string s) rest = literal_marked p r s (leb (length s) MAX_TEXT) rest
  inner_marked p r (number n) rest = whole_marked p r n rest ∙ number_read p r (whole_number (number n)) rest
  inner_marked p r (array (item (string w) no_items)) rest = none_marked p r (expression_word w) rest
  inner_marked p r (array (item (string w) (item a no_items))) rest = of_one p r (expression_word w) a rest
  inner_marked p r (array (item (string w) (item a (item b no_items)))) rest = of_two p r (expression_word w) a b rest
  inner_marked p r (array (item (string w) (item a (item b (item c ds))))) rest = of_more p r (expression_word w) a b c ds rest
  inner_marked p r _ rest = wrong_is p Shape r rest

pub expression_marked : (l k : ℕ) → l + k ≡ suc MAX_DEPTH → (p : List ℕ) (r : ℕ) (d : Data) (rest : List Mark)
    → first_of_marks r (expression_marks k p d ++ rest) ≡ after p (expression_at l r d) rest
unfolding expression_at
expression_marked zero k h p r d rest = too_deep k r p (expression_inner k p d) rest (omega arith)
expression_marked (suc l) k h p zero d rest = too_many k p (expression_inner k p d) rest (omega arith)
expression_marked (suc l) k h p (suc r) d rest =
    one_node k r p (expression_inner k p d ++ rest) (omega arith)
    ∙ inner_marked l k (expression_at l) (λ q s e next. expression_marked l (suc k) (omega arith) q s e next) p r d rest
