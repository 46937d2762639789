-- How statements are printed. The number is that of the blocks around.
use Rattle.std.specs.Prelude.{ℕ, ◌+◌, List, [], ◌∷◌, ◌++◌, Bool, true, false, ◌&&◌, if◌then◌else◌, codes, decimal}
use Rattle.stm_program.specs.Syntax.{Expression, Statement, Set, Put, Del, If, For, Emit, Abort, Block, End, Then}
use Rattle.stm_program_source.specs.Texts.{joined, call, braced, last_number}
use Rattle.stm_program_source.specs.Expressions.{variable_name, shown_expression}
use Rattle.stm_program_source.specs.Conditions.{shown_condition}

abbrev pub is_if : Statement → Bool
is_if (If c t e) = true
is_if (Set v e) = false
is_if (Put k e l) = false
is_if (Del k) = false
is_if (For v e n b) = false
is_if (Emit e) = false
is_if (Abort e) = false

abbrev pub is_end : Block → Bool
is_end End = true
is_end (Then s b) = false

-- the block is exactly one `if`
abbrev pub is_choice : Block → Bool
is_choice End = false
is_choice (Then s b) = is_if s && is_end b

-- What follows the first block of an `if`: nothing where there is no statement, the `if` itself where there is exactly one, and else a block.
-- `beside` are its statements with as many blocks around as the `if`, and `within` with one more.
abbrev pub otherwise : ℕ → Block → List (List ℕ) → List (List ℕ) → List ℕ
otherwise blocks End beside within = []
otherwise blocks (Then s b) beside within = codes " else " ++ (if is_choice (Then s b) then joined beside else braced blocks within)

abbrev pub shown_set : ℕ → Expression → List ℕ
shown_set v e = variable_name v ++ codes " = " ++ shown_expression e

abbrev pub shown_put : Expression → Expression → ℕ → List ℕ
shown_put k e l = call (codes "put") (shown_expression k ++ codes ", " ++ shown_expression e ++ last_number l)

abbrev mutual
  pub shown_statement : ℕ → Statement → List ℕ
  shown_statement blocks (Set v e) = shown_set v e
  shown_statement blocks (Put k e l) = shown_put k e l
  shown_statement blocks (Del k) = call (codes "del") (shown_expression k)
  shown_statement blocks (If c t e) =
      codes "if " ++ shown_condition c ++ codes " " ++ braced blocks (shown_statements (blocks + 1) t)
      ++ otherwise blocks e (shown_statements blocks e) (shown_statements (blocks + 1) e)
  shown_statement blocks (For v e n b) =
      codes "for " ++ variable_name v ++ codes " in 0.." ++ shown_expression e ++ codes " max " ++ decimal n ++ codes " "
      ++ braced blocks (shown_statements (blocks + 1) b)
  shown_statement blocks (Emit e) = call (codes "emit") (shown_expression e)
  shown_statement blocks (Abort e) = call (codes "abort") (shown_expression e)

  pub shown_statements : ℕ → Block → List (List ℕ)
  shown_statements blocks End = []
  shown_statements blocks (Then s b) = shown_statement blocks s ∷ shown_statements blocks b
