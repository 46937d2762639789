-- The words that an expression, a condition and a statement begin with.
use Rattle.std.specs.Prelude.{ℕ, List, Option, Some, None, if◌then◌else◌, codes}
use Rattle.stm_program.specs.declared.operator.Operator.{Operator}
use Rattle.stm_program.specs.Operators.{operator_named}
use Rattle.stm_program_json.specs.declared.words.ExprWord.{ExprWord}
use Rattle.stm_program_json.specs.declared.words.ExprWord.TheVariants as expression
use Rattle.stm_program_json.specs.declared.words.Unary.TheVariants as unary
use Rattle.stm_program_json.specs.declared.words.Binary.TheVariants as binary
use Rattle.stm_program_json.specs.declared.words.CondWord.{CondWord}
use Rattle.stm_program_json.specs.declared.words.CondWord.TheVariants as condition
use Rattle.stm_program_json.specs.declared.words.Comparison.TheVariants as comparison
use Rattle.stm_program_json.specs.declared.words.Connective.TheVariants as connective
use Rattle.stm_program_json.specs.declared.words.StmtWord.{StmtWord}
use Rattle.stm_program_json.specs.declared.words.StmtWord.TheVariants as statement
use Rattle.stm_program_json.specs.declared.words.Simple.TheVariants as simple
use Rattle.stm_json.specs.Parts.{same}

-- an operator on two numbers, where one was found, or what else it is
abbrev pub operator_or : Option ExprWord → Option Operator → Option ExprWord
operator_or other None = other
operator_or other (Some o) = Some (expression.Binary (binary.Arithmetic o))

-- the words of other expressions
abbrev pub other_word : List ℕ → Option ExprWord
other_word w =
    if same w (codes "var") then Some expression.Var
    else (if same w (codes "get") then Some (expression.Unary unary.Get)
    else (if same w (codes "rev") then Some (expression.Unary unary.Rev)
    else (if same w (codes "text_of") then Some (expression.Unary unary.TextOf)
    else (if same w (codes "num_of") then Some (expression.Unary unary.NumOf)
    else (if same w (codes "cat") then Some (expression.Binary binary.Cat)
    else None)))))

unfoldable pub expression_word : List ℕ → Option ExprWord
expression_word w = operator_or (other_word w) (operator_named w)

unfoldable pub condition_word : List ℕ → Option CondWord
condition_word w =
    if same w (codes "eq") then Some (condition.Comparison comparison.Equal)
    else (if same w (codes "less") then Some (condition.Comparison comparison.Less)
    else (if same w (codes "not") then Some condition.Not
    else (if same w (codes "and") then Some (condition.Connective connective.And)
    else (if same w (codes "or") then Some (condition.Connective connective.Or)
    else None))))

unfoldable pub statement_word : List ℕ → Option StmtWord
statement_word w =
    if same w (codes "set") then Some statement.Set
    else (if same w (codes "put") then Some statement.Put
    else (if same w (codes "if") then Some statement.If
    else (if same w (codes "for") then Some statement.For
    else (if same w (codes "del") then Some (statement.Simple simple.Del)
    else (if same w (codes "emit") then Some (statement.Simple simple.Emit)
    else (if same w (codes "abort") then Some (statement.Simple simple.Abort)
    else None))))))
