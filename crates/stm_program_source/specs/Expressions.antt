-- How an expression is printed.
use Rattle.std.specs.Prelude.{ℕ, List, ◌++◌, nat_lt, nat_le, codes, decimal}
use Rattle.std.specs.Fmt.{signed_decimal}
use Rattle.json.specs.Print.{quoted}
use Rattle.stm_program.specs.Operators.{operator_rank, operator_sign}
use Rattle.stm_program.specs.Syntax.{Expression, Text, Number, Variable, Get, Rev, Arithmetic, Cat, TextOf, NumOf}
use Rattle.stm_program_source.specs.Texts.{call, bracketed}

-- `++` binds least, and what is no operator most
abbrev pub rank_of : Expression → ℕ
rank_of (Cat l r) = 1
rank_of (Arithmetic o l r) = operator_rank o
rank_of (Text s) = 4
rank_of (Number z) = 4
rank_of (Variable v) = 4
rank_of (Get e) = 4
rank_of (Rev e) = 4
rank_of (TextOf e) = 4
rank_of (NumOf e) = 4

-- brackets stand round a left operand that binds less, and round a right one that does not bind more
abbrev pub operation : ℕ → List ℕ → Expression → List ℕ → Expression → List ℕ → List ℕ
operation own sign l left r right =
    bracketed (nat_lt (rank_of l) own) left ++ codes " " ++ sign ++ codes " " ++ bracketed (nat_le (rank_of r) own) right

abbrev pub variable_name : ℕ → List ℕ
variable_name v = codes "v" ++ decimal v

abbrev pub shown_expression : Expression → List ℕ
shown_expression (Text s) = quoted s
shown_expression (Number z) = signed_decimal z
shown_expression (Variable v) = variable_name v
shown_expression (Get e) = call (codes "get") (shown_expression e)
shown_expression (Rev e) = call (codes "rev") (shown_expression e)
shown_expression (Arithmetic o l r) = operation (operator_rank o) (operator_sign o) l (shown_expression l) r (shown_expression r)
shown_expression (Cat l r) = operation 1 (codes "++") l (shown_expression l) r (shown_expression r)
shown_expression (TextOf e) = call (codes "text_of") (shown_expression e)
shown_expression (NumOf e) = call (codes "num_of") (shown_expression e)
