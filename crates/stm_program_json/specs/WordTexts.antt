-- The text of each word.
use Rattle.std.specs.Prelude.{ℕ, List, codes}
use Rattle.stm_program_json.specs.declared.words.ExprWord.{ExprWord}
use Rattle.stm_program_json.specs.declared.words.ExprWord.TheVariants as expression
use Rattle.stm_program_json.specs.declared.words.Unary.{Unary}
use Rattle.stm_program_json.specs.declared.words.Unary.TheVariants as unary
use Rattle.stm_program_json.specs.declared.words.Binary.{Binary}
use Rattle.stm_program_json.specs.declared.words.Binary.TheVariants as binary
use Rattle.stm_program_json.specs.declared.words.CondWord.{CondWord}
use Rattle.stm_program_json.specs.declared.words.CondWord.TheVariants as condition
use Rattle.stm_program_json.specs.declared.words.Comparison.{Comparison}
use Rattle.stm_program_json.specs.declared.words.Comparison.TheVariants as comparison
use Rattle.stm_program_json.specs.declared.words.Connective.{Connective}
use Rattle.stm_program_json.specs.declared.words.Connective.TheVariants as connective
use Rattle.stm_program_json.specs.declared.words.StmtWord.{StmtWord}
use Rattle.stm_program_json.specs.declared.words.StmtWord.TheVariants as statement
use Rattle.stm_program_json.specs.declared.words.Simple.{Simple}
use Rattle.stm_program_json.specs.declared.words.Simple.TheVariants as simple
use Rattle.stm_program.specs.Operators.{operator_word}

abbrev pub unary_text : Unary → List ℕ
unary_text unary.Get = codes "get"
unary_text unary.Rev = codes "rev"
unary_text unary.TextOf = codes "text_of"
unary_text unary.NumOf = codes "num_of"

abbrev pub binary_text : Binary → List ℕ
binary_text (binary.Arithmetic o) = operator_word o
binary_text binary.Cat = codes "cat"

abbrev pub expression_text : ExprWord → List ℕ
expression_text expression.Var = codes "var"
expression_text (expression.Unary u) = unary_text u
expression_text (expression.Binary b) = binary_text b

abbrev pub comparison_text : Comparison → List ℕ
comparison_text comparison.Equal = codes "eq"
comparison_text comparison.Less = codes "less"

abbrev pub connective_text : Connective → List ℕ
connective_text connective.And = codes "and"
connective_text connective.Or = codes "or"

abbrev pub condition_text : CondWord → List ℕ
condition_text (condition.Comparison c) = comparison_text c
condition_text condition.Not = codes "not"
condition_text (condition.Connective c) = connective_text c

abbrev pub simple_text : Simple → List ℕ
simple_text simple.Del = codes "del"
simple_text simple.Emit = codes "emit"
simple_text simple.Abort = codes "abort"

abbrev pub statement_text : StmtWord → List ℕ
statement_text statement.Set = codes "set"
statement_text statement.Put = codes "put"
statement_text statement.If = codes "if"
statement_text statement.For = codes "for"
statement_text (statement.Simple s) = simple_text s
