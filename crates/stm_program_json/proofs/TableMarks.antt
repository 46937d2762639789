-- The marks by the table of words are those that are spelled out for each word.
use Rattle.std.proofs.Common.{◌≡◌, ℕ, suc, List, [], ◌∷◌, ◌++◌, Bool, true, false, cond, Option, Some, None, bytes_eq, refl, sym, ap, ◌∙◌, map, codes, arith}
use Rattle.std.specs.Map.{lookup}
use Rattle.std.proofs.lemmas.List.{append-nil}
use Rattle.std.proofs.lemmas.Bool.Decides.{nat_tests}
use Rattle.serde_json.specs.Data.{Data, string, number, array, Items, no_items, item}
use Rattle.stm_json.specs.declared.cause.Cause.TheVariants.{Shape}
use Rattle.stm_program_json.specs.declared.words.ExprWord.{ExprWord}
use Rattle.stm_program_json.specs.declared.words.ExprWord.TheVariants as expression
use Rattle.stm_program_json.specs.declared.words.CondWord.{CondWord}
use Rattle.stm_program_json.specs.declared.words.CondWord.TheVariants as condition
use Rattle.stm_program_json.specs.declared.words.StmtWord.{StmtWord}
use Rattle.stm_program_json.specs.declared.words.StmtWord.TheVariants as statement
use Rattle.stm_program.specs.declared.operator.Operator.{Operator}
use Rattle.stm_program.specs.Operators.{operator_word, named_in}
use Rattle.stm_program_json.specs.declared.words.Comparison.TheVariants as comparison
use Rattle.stm_program_json.specs.declared.words.Connective.TheVariants as connective
use Rattle.stm_program_json.specs.declared.words.Simple.TheVariants as simple
use Rattle.stm_json.specs.Parts.{same}
use Rattle.stm_program_json.specs.Words.{operator_or, expression_word, condition_word, statement_word}
use Rattle.stm_json.specs.Faults.{at}
use Rattle.stm_program_json.specs.FirstFault.{Table, Mark, Node, Sort, Value, Test, Step, Block, Count, wrong, number_marks, parts_after, marks_if, marks_in}
use Rattle.stm_program_json.specs.FirstFault.{marks_of_parts, marks_of_steps}
use Rattle.stm_program_json.proofs.ReaderMarks.{expression_of_one, expression_of_two, expression_inner, condition_of_one, condition_of_two, condition_inner}
use Rattle.stm_program_json.proofs.ReaderMarks.{statement_of_one, statement_of_two, statement_of_three, statement_of_four, statement_inner, block_marks}
use Rattle.stm_program_json.proofs.ReaderMarks.{statements_marks}
use Rattle.stm_program.specs.declared.limits.TheConstants.{MAX_TURNS, MAX_VARIABLE, MAX_LEASE}

-- what the first of these tests that holds picks
abbrev pick : {A : Type 0} → List Bool → List A → A → A
pick [] xs z = z
pick (b ∷ bs) [] z = z
pick (b ∷ bs) (x ∷ xs) z = cond b x (pick bs xs z)

tried : {A B : Type 0} (f : A → B) (b : Bool) (x y : A) (z : B) → f y ≡ z → cond b (f x) z ≡ f (cond b x y)
tried f true x y z e = refl
tried f false x y z e = sym e

picked : {A B : Type 0} (f : A → B) (bs : List Bool) (xs : List A) (z : A) → pick bs (map f xs) (f z) ≡ f (pick bs xs z)
picked f [] xs z = refl
picked f (b ∷ bs) [] z = refl
picked f (b ∷ bs) (x ∷ xs) z = tried f b x (pick bs xs z) (pick bs (map f xs) (f z)) (sym (picked f bs xs z))

-- ---- the parts after a word, by the reader's sorts of words

abbrev expression_parts : Option ExprWord → Option (List Sort)
expression_parts None = None
expression_parts (Some expression.Var) = Some (Count MAX_VARIABLE ∷ [])
expression_parts (Some (expression.Unary u)) = Some (Value ∷ [])
expression_parts (Some (expression.Binary b)) = Some (Value ∷ Value ∷ [])

abbrev condition_parts : Option CondWord → Option (List Sort)
condition_parts None = None
condition_parts (Some (condition.Comparison c)) = Some (Value ∷ Value ∷ [])
condition_parts (Some condition.Not) = Some (Test ∷ [])
condition_parts (Some (condition.Connective c)) = Some (Test ∷ Test ∷ [])

abbrev statement_parts : Option StmtWord → Option (List Sort)
statement_parts None = None
statement_parts (Some statement.Set) = Some (Count MAX_VARIABLE ∷ Value ∷ [])
statement_parts (Some statement.Put) = Some (Value ∷ Value ∷ Count MAX_LEASE ∷ [])
statement_parts (Some statement.If) = Some (Test ∷ Block ∷ Block ∷ [])
statement_parts (Some statement.For) = Some (Count MAX_VARIABLE ∷ Value ∷ Count MAX_TURNS ∷ Block ∷ [])
statement_parts (Some (statement.Simple s)) = Some (Value ∷ [])

-- two values stand after the word of an operator, where another table says what stands after other words
operators_table : (os : List Operator) (w : List ℕ) (others : Table) (other : Option ExprWord) → lookup (bytes_eq w) others ≡ expression_parts other
    → lookup (bytes_eq w) (map (λ (o : Operator). (operator_word o, Value ∷ Value ∷ [])) os ++ others) ≡ expression_parts (operator_or other (named_in os w))
operators_table [] w others other known = known
operators_table (o ∷ os) w others other known =
    tried (λ (found : Option Operator). expression_parts (operator_or other found)) (bytes_eq w (operator_word o)) (Some o) (named_in os w) _
    (sym (operators_table os w others other known))

expression_table : (w : List ℕ) → parts_after Value w ≡ expression_parts (expression_word w)
unfolding parts_after expression_word
expression_table w = grind (arith, nat_tests, operators_table, picked)

condition_table : (w : List ℕ) → parts_after Test w ≡ condition_parts (condition_word w)
unfolding parts_after condition_word
condition_table w =
    picked condition_parts
    (same w (codes "eq") ∷ same w (codes "less") ∷ same w (codes "not") ∷ same w (codes "and") ∷ same w (codes "or") ∷ [])
    (Some (condition.Comparison comparison.Equal) ∷ Some (condition.Comparison comparison.Less) ∷ Some condition.Not
    ∷ Some (condition.Connective connective.And) ∷ Some (condition.Connective connective.Or) ∷ []) None

statement_table : (w : List ℕ) → parts_after Step w ≡ statement_parts (statement_word w)
unfolding parts_after statement_word
statement_table w =
    picked statement_parts
    (same w (codes "set") ∷ same w (codes "put") ∷ same w (codes "if") ∷ same w (codes "for")
    ∷ same w (codes "del") ∷ same w (codes "emit") ∷ same w (codes "abort") ∷ [])
    (Some statement.Set ∷ Some statement.Put ∷ Some statement.If ∷ Some statement.For
    ∷ Some (statement.Simple simple.Del) ∷ Some (statement.Simple simple.Emit) ∷ Some (statement.Simple simple.Abort) ∷ []) None

-- ---- expressions

value_none : (k : ℕ) (p : List ℕ) (o : Option ExprWord) → marks_if p (expression_parts o) no_items (λ ss. marks_of_parts k p 1 ss no_items) ≡ wrong p Shape
value_none k p None = refl
value_none k p (Some expression.Var) = refl
value_none k p (Some (expression.Unary u)) = refl
value_none k p (Some (expression.Binary b)) = refl

value_one : (k : ℕ) (p : List ℕ) (o : Option ExprWord) (a : Data) → marks_in Value (suc k) (at p 1) a ≡ expression_inner (suc k) (at p 1) a →
    marks_if p (expression_parts o) (item a no_items) (λ ss. marks_of_parts k p 1 ss (item a no_items))
    ≡ expression_of_one p o a (Node (suc k) (at p 1) ∷ expression_inner (suc k) (at p 1) a)
value_one k p None a e = refl
value_one k p (Some expression.Var) a e = append-nil (number_marks (at p 1) MAX_VARIABLE a)
value_one k p (Some (expression.Unary u)) a e = append-nil (Node (suc k) (at p 1) ∷ marks_in Value (suc k) (at p 1) a) ∙ ap (λ ms. Node (suc k) (at p 1) ∷ ms) e
value_one k p (Some (expression.Binary b)) a e = refl

value_two : (k : ℕ) (p : List ℕ) (o : Option ExprWord) (a b : Data) → marks_in Value (suc k) (at p 1) a ≡ expression_inner (suc k) (at p 1) a →
    marks_in Value (suc k) (at p 2) b ≡ expression_inner (suc k) (at p 2) b →
    marks_if p (expression_parts o) (item a (item b no_items)) (λ ss. marks_of_parts k p 1 ss (item a (item b no_items)))
    ≡ expression_of_two p o ((Node (suc k) (at p 1) ∷ expression_inner (suc k) (at p 1) a) ++ (Node (suc k) (at p 2) ∷ expression_inner (suc k) (at p 2) b))
value_two k p None a b e f = refl
value_two k p (Some expression.Var) a b e f = refl
value_two k p (Some (expression.Unary u)) a b e f = refl
value_two k p (Some (expression.Binary o)) a b e f =
    ap (λ ms. (Node (suc k) (at p 1) ∷ ms) ++ ((Node (suc k) (at p 2) ∷ marks_in Value (suc k) (at p 2) b) ++ [])) e
    ∙ ap (λ ms. (Node (suc k) (at p 1) ∷ expression_inner (suc k) (at p 1) a) ++ ms)
    (append-nil (Node (suc k) (at p 2) ∷ marks_in Value (suc k) (at p 2) b) ∙ ap (λ ms. Node (suc k) (at p 2) ∷ ms) f)

value_more : (k : ℕ) (p : List ℕ) (o : Option ExprWord) (a b c : Data) (ds : Items) →
    marks_if p (expression_parts o) (item a (item b (item c ds))) (λ ss. marks_of_parts k p 1 ss (item a (item b (item c ds)))) ≡ wrong p Shape
value_more k p None a b c ds = refl
value_more k p (Some expression.Var) a b c ds = refl
value_more k p (Some (expression.Unary u)) a b c ds = refl
value_more k p (Some (expression.Binary o)) a b c ds = refl

by_table : (k : ℕ) (p : List ℕ) (ds : Items) (x y : Option (List Sort)) → x ≡ y →
    marks_if p x ds (λ ss. marks_of_parts k p 1 ss ds) ≡ marks_if p y ds (λ ss. marks_of_parts k p 1 ss ds)
by_table k p ds x y e = ap (λ o. marks_if p o ds (λ ss. marks_of_parts k p 1 ss ds)) e

value_is : (k : ℕ) (p : List ℕ) (d : Data) → marks_in Value k p d ≡ expression_inner k p d
value_is k p (string s) = refl
value_is k p (number n) = refl
value_is k p (array (item (string w) no_items)) = by_table k p no_items _ _ (expression_table w) ∙ value_none k p (expression_word w)
value_is k p (array (item (string w) (item a no_items))) =
    by_table k p (item a no_items) _ _ (expression_table w) ∙ value_one k p (expression_word w) a (value_is (suc k) (at p 1) a)
value_is k p (array (item (string w) (item a (item b no_items)))) =
    by_table k p (item a (item b no_items)) _ _ (expression_table w)
    ∙ value_two k p (expression_word w) a b (value_is (suc k) (at p 1) a) (value_is (suc k) (at p 2) b)
value_is k p (array (item (string w) (item a (item b (item c ds))))) =
    by_table k p (item a (item b (item c ds))) _ _ (expression_table w) ∙ value_more k p (expression_word w) a b c ds
value_is k p _ = refl

-- ---- one part after the other

-- the last part of a node
last : (k : ℕ) (p : List ℕ) (ms ns : List Mark) → ms ≡ ns → (Node k p ∷ ms) ++ [] ≡ Node k p ∷ ns
last k p ms ns e = append-nil (Node k p ∷ ms) ∙ ap (λ l. Node k p ∷ l) e

both : (xs ys us vs : List Mark) → xs ≡ us → ys ≡ vs → xs ++ ys ≡ us ++ vs
both xs ys us vs e f = ap (λ l. l ++ ys) e ∙ ap (λ l. us ++ l) f

node_is : (k : ℕ) (p : List ℕ) (ms ns : List Mark) → ms ≡ ns → Node k p ∷ ms ≡ Node k p ∷ ns
node_is k p ms ns e = ap (λ l. Node k p ∷ l) e

-- ---- conditions

test_none : (k : ℕ) (p : List ℕ) (o : Option CondWord) → marks_if p (condition_parts o) no_items (λ ss. marks_of_parts k p 1 ss no_items) ≡ wrong p Shape
test_none k p None = refl
test_none k p (Some (condition.Comparison c)) = refl
test_none k p (Some condition.Not) = refl
test_none k p (Some (condition.Connective c)) = refl

test_one : (k : ℕ) (p : List ℕ) (o : Option CondWord) (a : Data) → marks_in Test (suc k) (at p 1) a ≡ condition_inner (suc k) (at p 1) a →
    marks_if p (condition_parts o) (item a no_items) (λ ss. marks_of_parts k p 1 ss (item a no_items))
    ≡ condition_of_one p o (Node (suc k) (at p 1) ∷ condition_inner (suc k) (at p 1) a)
test_one k p None a e = refl
test_one k p (Some (condition.Comparison c)) a e = refl
test_one k p (Some condition.Not) a e = last (suc k) (at p 1) _ _ e
test_one k p (Some (condition.Connective c)) a e = refl

test_two : (k : ℕ) (p : List ℕ) (o : Option CondWord) (a b : Data) → marks_in Test (suc k) (at p 1) a ≡ condition_inner (suc k) (at p 1) a →
    marks_in Test (suc k) (at p 2) b ≡ condition_inner (suc k) (at p 2) b →
    marks_if p (condition_parts o) (item a (item b no_items)) (λ ss. marks_of_parts k p 1 ss (item a (item b no_items)))
    ≡ condition_of_two p o ((Node (suc k) (at p 1) ∷ expression_inner (suc k) (at p 1) a) ++ (Node (suc k) (at p 2) ∷ expression_inner (suc k) (at p 2) b))
    ((Node (suc k) (at p 1) ∷ condition_inner (suc k) (at p 1) a) ++ (Node (suc k) (at p 2) ∷ condition_inner (suc k) (at p 2) b))
test_two k p None a b e f = refl
test_two k p (Some (condition.Comparison c)) a b e f =
    both _ _ _ _ (node_is (suc k) (at p 1) _ _ (value_is (suc k) (at p 1) a)) (last (suc k) (at p 2) _ _ (value_is (suc k) (at p 2) b))
test_two k p (Some condition.Not) a b e f = refl
test_two k p (Some (condition.Connective c)) a b e f = both _ _ _ _ (node_is (suc k) (at p 1) _ _ e) (last (suc k) (at p 2) _ _ f)

test_more : (k : ℕ) (p : List ℕ) (o : Option CondWord) (a b c : Data) (ds : Items) →
    marks_if p (condition_parts o) (item a (item b (item c ds))) (λ ss. marks_of_parts k p 1 ss (item a (item b (item c ds)))) ≡ wrong p Shape
test_more k p None a b c ds = refl
test_more k p (Some (condition.Comparison o)) a b c ds = refl
test_more k p (Some condition.Not) a b c ds = refl
test_more k p (Some (condition.Connective o)) a b c ds = refl

test_is : (k : ℕ) (p : List ℕ) (d : Data) → marks_in Test k p d ≡ condition_inner k p d
test_is k p (array (item (string w) no_items)) = by_table k p no_items _ _ (condition_table w) ∙ test_none k p (condition_word w)
test_is k p (array (item (string w) (item a no_items))) =
    by_table k p (item a no_items) _ _ (condition_table w) ∙ test_one k p (condition_word w) a (test_is (suc k) (at p 1) a)
test_is k p (array (item (string w) (item a (item b no_items)))) =
    by_table k p (item a (item b no_items)) _ _ (condition_table w)
    ∙ test_two k p (condition_word w) a b (test_is (suc k) (at p 1) a) (test_is (suc k) (at p 2) b)
test_is k p (array (item (string w) (item a (item b (item c ds))))) =
    by_table k p (item a (item b (item c ds))) _ _ (condition_table w) ∙ test_more k p (condition_word w) a b c ds
test_is k p _ = refl

-- ---- statements and blocks

step_none : (k : ℕ) (p : List ℕ) (o : Option StmtWord) → marks_if p (statement_parts o) no_items (λ ss. marks_of_parts k p 1 ss no_items) ≡ wrong p Shape
step_none k p None = refl
step_none k p (Some statement.Set) = refl
step_none k p (Some statement.Put) = refl
step_none k p (Some statement.If) = refl
step_none k p (Some statement.For) = refl
step_none k p (Some (statement.Simple s)) = refl

step_one : (k : ℕ) (p : List ℕ) (o : Option StmtWord) (a : Data) →
    marks_if p (statement_parts o) (item a no_items) (λ ss. marks_of_parts k p 1 ss (item a no_items))
    ≡ statement_of_one p o (Node (suc k) (at p 1) ∷ expression_inner (suc k) (at p 1) a)
step_one k p None a = refl
step_one k p (Some statement.Set) a = refl
step_one k p (Some statement.Put) a = refl
step_one k p (Some statement.If) a = refl
step_one k p (Some statement.For) a = refl
step_one k p (Some (statement.Simple s)) a = last (suc k) (at p 1) _ _ (value_is (suc k) (at p 1) a)

step_two : (k : ℕ) (p : List ℕ) (o : Option StmtWord) (a b : Data) →
    marks_if p (statement_parts o) (item a (item b no_items)) (λ ss. marks_of_parts k p 1 ss (item a (item b no_items)))
    ≡ statement_of_two p o (number_marks (at p 1) MAX_VARIABLE a ++ (Node (suc k) (at p 2) ∷ expression_inner (suc k) (at p 2) b))
step_two k p None a b = refl
step_two k p (Some statement.Set) a b = ap (λ l. number_marks (at p 1) MAX_VARIABLE a ++ l) (last (suc k) (at p 2) _ _ (value_is (suc k) (at p 2) b))
step_two k p (Some statement.Put) a b = refl
step_two k p (Some statement.If) a b = refl
step_two k p (Some statement.For) a b = refl
step_two k p (Some (statement.Simple s)) a b = refl

step_three : (k : ℕ) (p : List ℕ) (o : Option StmtWord) (a b c : Data) →
    marks_in Block (suc k) (at p 2) b ≡ block_marks (suc k) (at p 2) b → marks_in Block (suc k) (at p 3) c ≡ block_marks (suc k) (at p 3) c →
    marks_if p (statement_parts o) (item a (item b (item c no_items))) (λ ss. marks_of_parts k p 1 ss (item a (item b (item c no_items))))
    ≡ statement_of_three p o
    ((Node (suc k) (at p 1) ∷ expression_inner (suc k) (at p 1) a) ++
    ((Node (suc k) (at p 2) ∷ expression_inner (suc k) (at p 2) b) ++ number_marks (at p 3) MAX_LEASE c))
    ((Node (suc k) (at p 1) ∷ condition_inner (suc k) (at p 1) a) ++ (block_marks (suc k) (at p 2) b ++ block_marks (suc k) (at p 3) c))
step_three k p None a b c e f = refl
step_three k p (Some statement.Set) a b c e f = refl
step_three k p (Some statement.Put) a b c e f =
    both _ _ _ _ (node_is (suc k) (at p 1) _ _ (value_is (suc k) (at p 1) a))
    (both _ _ _ _ (node_is (suc k) (at p 2) _ _ (value_is (suc k) (at p 2) b)) (append-nil (number_marks (at p 3) MAX_LEASE c)))
step_three k p (Some statement.If) a b c e f =
    both _ _ _ _ (node_is (suc k) (at p 1) _ _ (test_is (suc k) (at p 1) a)) (both _ _ _ _ e (append-nil (marks_in Block (suc k) (at p 3) c) ∙ f))
step_three k p (Some statement.For) a b c e f = refl
step_three k p (Some (statement.Simple s)) a b c e f = refl

step_four : (k : ℕ) (p : List ℕ) (o : Option StmtWord) (a b c d : Data) → marks_in Block (suc k) (at p 4) d ≡ block_marks (suc k) (at p 4) d →
    marks_if p (statement_parts o) (item a (item b (item c (item d no_items)))) (λ ss. marks_of_parts k p 1 ss (item a (item b (item c (item d no_items)))))
    ≡ statement_of_four p o
    (number_marks (at p 1) MAX_VARIABLE a ++ ((Node (suc k) (at p 2) ∷ expression_inner (suc k) (at p 2) b) ++
    (number_marks (at p 3) MAX_TURNS c ++ block_marks (suc k) (at p 4) d)))
step_four k p None a b c d e = refl
step_four k p (Some statement.Set) a b c d e = refl
step_four k p (Some statement.Put) a b c d e = refl
step_four k p (Some statement.If) a b c d e = refl
step_four k p (Some statement.For) a b c d e =
    ap (λ l. number_marks (at p 1) MAX_VARIABLE a ++ l)
    (both _ _ _ _ (node_is (suc k) (at p 2) _ _ (value_is (suc k) (at p 2) b))
    (ap (λ l. number_marks (at p 3) MAX_TURNS c ++ l) (append-nil (marks_in Block (suc k) (at p 4) d) ∙ e)))
step_four k p (Some (statement.Simple s)) a b c d e = refl

step_more : (k : ℕ) (p : List ℕ) (o : Option StmtWord) (a b c d f : Data) (ds : Items) →
    marks_if p (statement_parts o) (item a (item b (item c (item d (item f ds)))))
    (λ ss. marks_of_parts k p 1 ss (item a (item b (item c (item d (item f ds)))))) ≡ wrong p Shape
step_more k p None a b c d f ds = refl
step_more k p (Some statement.Set) a b c d f ds = refl
step_more k p (Some statement.Put) a b c d f ds = refl
step_more k p (Some statement.If) a b c d f ds = refl
step_more k p (Some statement.For) a b c d f ds = refl
step_more k p (Some (statement.Simple s)) a b c d f ds = refl

mutual
  step_is : (k : ℕ) (p : List ℕ) (d : Data) → marks_in Step k p d ≡ statement_inner k p d
  step_is k p (array (item (string w) no_items)) = by_table k p no_items _ _ (statement_table w) ∙ step_none k p (statement_word w)
  step_is k p (array (item (string w) (item a no_items))) = by_table k p (item a no_items) _ _ (statement_table w) ∙ step_one k p (statement_word w) a
  step_is k p (array (item (string w) (item a (item b no_items)))) = by_table k p (item a (item b no_items)) _ _ (statement_table w)
      ∙ step_two k p (statement_word w) a b
  step_is k p (array (item (string w) (item a (item b (item c no_items))))) =
      by_table k p (item a (item b (item c no_items))) _ _ (statement_table w)
      ∙ step_three k p (statement_word w) a b c (block_is (suc k) (at p 2) b) (block_is (suc k) (at p 3) c)
  step_is k p (array (item (string w) (item a (item b (item c (item d no_items)))))) =
      by_table k p (item a (item b (item c (item d no_items)))) _ _ (statement_table w)
      ∙ step_four k p (statement_word w) a b c d (block_is (suc k) (at p 4) d)
  step_is k p (array (item (string w) (item a (item b (item c (item d (item f ds))))))) =
      by_table k p (item a (item b (item c (item d (item f ds))))) _ _ (statement_table w) ∙ step_more k p (statement_word w) a b c d f ds
  step_is k p _ = refl

  pub block_is : (k : ℕ) (p : List ℕ) (d : Data) → marks_in Block k p d ≡ block_marks k p d
  block_is k p (array ds) = steps_are k p 0 ds
  block_is k p _ = refl

  pub steps_are : (k : ℕ) (p : List ℕ) (i : ℕ) (ds : Items) → marks_of_steps k p i ds ≡ statements_marks k p i ds
  steps_are k p i no_items = refl
  steps_are k p i (item d ds) = both _ _ _ _ (node_is k (at p i) _ _ (step_is k (at p i) d)) (steps_are k p (suc i) ds)
