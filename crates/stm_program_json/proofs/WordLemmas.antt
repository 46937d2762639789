-- A word is found by its own text and by no other.
use Rattle.std.proofs.Common.{◌≡◌, ℕ, List, [], ◌∷◌, Bool, true, false, cond, Option, Some, None, refl, ap, ◌∙◌, codes, arith}
use Rattle.std.proofs.lemmas.Slice.Eq.{bytes_eq-Decides}
use Rattle.std.proofs.lemmas.Bool.Decides.{nat_tests}
use Rattle.stm_program_json.specs.declared.words.ExprWord.{ExprWord}
use Rattle.stm_program_json.specs.declared.words.ExprWord.TheVariants as expression
use Rattle.stm_program_json.specs.declared.words.Unary.TheVariants as unary
use Rattle.stm_program_json.specs.declared.words.Binary.TheVariants as binary
use Rattle.stm_program.specs.declared.operator.Operator.{Operator}
use Rattle.stm_program.specs.declared.operator.TheConstants.{OPERATORS}
use Rattle.stm_program.specs.Operators.{operator_word, named_in, each_is_named}
use Rattle.stm_program_json.specs.declared.words.CondWord.{CondWord}
use Rattle.stm_program_json.specs.declared.words.CondWord.TheVariants as condition
use Rattle.stm_program_json.specs.declared.words.Comparison.TheVariants as comparison
use Rattle.stm_program_json.specs.declared.words.Connective.TheVariants as connective
use Rattle.stm_program_json.specs.declared.words.StmtWord.{StmtWord}
use Rattle.stm_program_json.specs.declared.words.StmtWord.TheVariants as statement
use Rattle.stm_program_json.specs.declared.words.Simple.TheVariants as simple
use Rattle.stm_json.specs.Parts.{same}
use Rattle.stm_program_json.specs.Words.{operator_or, other_word, expression_word, condition_word, statement_word}
use Rattle.stm_program_json.specs.WordTexts.{expression_text, condition_text, statement_text}

chosen : {W : Type 0} (text : W → List ℕ) (w t : List ℕ) (y x : W) (rest : Option W) → text y ≡ t → (rest ≡ Some x → w ≡ text x)
    → cond (same w t) (Some y) rest ≡ Some x → w ≡ text x
chosen text w t y x rest named others h = grind (arith, nat_tests, bytes_eq-Decides)

other_word-is : (w : List ℕ) (x : ExprWord) → other_word w ≡ Some x → w ≡ expression_text x
other_word-is w x h =
    chosen expression_text w (codes "var") expression.Var x _ refl
    (chosen expression_text w (codes "get") (expression.Unary unary.Get) x _ refl
    (chosen expression_text w (codes "rev") (expression.Unary unary.Rev) x _ refl
    (chosen expression_text w (codes "text_of") (expression.Unary unary.TextOf) x _ refl
    (chosen expression_text w (codes "num_of") (expression.Unary unary.NumOf) x _ refl
    (chosen expression_text w (codes "cat") (expression.Binary binary.Cat) x _ refl
    (λ (n : None ≡ Some x). cc))))))
    h

by_test : (os : List Operator) (w : List ℕ) (x : ExprWord) (other : Option ExprWord) (o : Operator) (b : Bool) → (b ≡ true → w ≡ operator_word o)
    → (operator_or other (named_in os w) ≡ Some x → w ≡ expression_text x) → operator_or other (cond b (Some o) (named_in os w)) ≡ Some x
    → w ≡ expression_text x
by_test os w x other o true found rest h =
    let e : expression.Binary (binary.Arithmetic o) ≡ x = cc in
    found refl ∙ ap expression_text e
by_test os w x other o false found rest h = rest h

-- the first of these that has the word, or what else it is
operator_or-is : (os : List Operator) (w : List ℕ) (x : ExprWord) (other : Option ExprWord) → (other ≡ Some x → w ≡ expression_text x)
    → operator_or other (named_in os w) ≡ Some x → w ≡ expression_text x
operator_or-is [] w x other others h = others h
operator_or-is (o ∷ os) w x other others h =
    by_test os w x other o (same w (operator_word o)) (bytes_eq-Decides w (operator_word o)).0 (operator_or-is os w x other others) h

pub expression_word-is : (w : List ℕ) (x : ExprWord) → expression_word w ≡ Some x → w ≡ expression_text x
unfolding expression_word
expression_word-is w x h = operator_or-is OPERATORS w x (other_word w) (other_word-is w x) h

pub condition_word-is : (w : List ℕ) (x : CondWord) → condition_word w ≡ Some x → w ≡ condition_text x
unfolding condition_word
condition_word-is w x h =
    chosen condition_text w (codes "eq") (condition.Comparison comparison.Equal) x _ refl
    (chosen condition_text w (codes "less") (condition.Comparison comparison.Less) x _ refl
    (chosen condition_text w (codes "not") condition.Not x _ refl
    (chosen condition_text w (codes "and") (condition.Connective connective.And) x _ refl
    (chosen condition_text w (codes "or") (condition.Connective connective.Or) x _ refl
    (λ (n : None ≡ Some x). cc)))))
    h

pub statement_word-is : (w : List ℕ) (x : StmtWord) → statement_word w ≡ Some x → w ≡ statement_text x
unfolding statement_word
statement_word-is w x h =
    chosen statement_text w (codes "set") statement.Set x _ refl
    (chosen statement_text w (codes "put") statement.Put x _ refl
    (chosen statement_text w (codes "if") statement.If x _ refl
    (chosen statement_text w (codes "for") statement.For x _ refl
    (chosen statement_text w (codes "del") (statement.Simple simple.Del) x _ refl
    (chosen statement_text w (codes "emit") (statement.Simple simple.Emit) x _ refl
    (chosen statement_text w (codes "abort") (statement.Simple simple.Abort) x _ refl
    (λ (n : None ≡ Some x). cc)))))))
    h

pub expression_word-text : (x : ExprWord) → expression_word (expression_text x) ≡ Some x
unfolding expression_word
expression_word-text expression.Var = refl
expression_word-text (expression.Unary unary.Get) = refl
expression_word-text (expression.Unary unary.Rev) = refl
expression_word-text (expression.Unary unary.TextOf) = refl
expression_word-text (expression.Unary unary.NumOf) = refl
expression_word-text (expression.Binary binary.Cat) = refl
expression_word-text (expression.Binary (binary.Arithmetic o)) =
    ap (λ (found : Option Operator). operator_or (other_word (operator_word o)) found) (each_is_named o)

pub condition_word-text : (x : CondWord) → condition_word (condition_text x) ≡ Some x
unfolding condition_word
condition_word-text (condition.Comparison comparison.Equal) = refl
condition_word-text (condition.Comparison comparison.Less) = refl
condition_word-text condition.Not = refl
condition_word-text (condition.Connective connective.And) = refl
condition_word-text (condition.Connective connective.Or) = refl

pub statement_word-text : (x : StmtWord) → statement_word (statement_text x) ≡ Some x
unfolding statement_word
statement_word-text statement.Set = refl
statement_word-text statement.Put = refl
statement_word-text statement.If = refl
statement_word-text statement.For = refl
statement_word-text (statement.Simple simple.Del) = refl
statement_word-text (statement.Simple simple.Emit) = refl
statement_word-text (statement.Simple simple.Abort) = refl
