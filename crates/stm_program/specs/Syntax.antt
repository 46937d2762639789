-- The syntax of programs, as trees: what a contract sees of an expression, a condition, a statement and a block.
use Rattle.std.specs.Prelude.{ℕ, ℤ, List, []}
use Rattle.stm_program.specs.declared.operator.Operator.{Operator}

-- a variable is its number, and a text its bytes
pub data Expression : Type 0 where
  Text : List ℕ → Expression
  Number : ℤ → Expression
  Variable : ℕ → Expression
  Get : Expression → Expression
  Rev : Expression → Expression
  Arithmetic : Operator → Expression → Expression → Expression
  Cat : Expression → Expression → Expression
  TextOf : Expression → Expression
  NumOf : Expression → Expression

pub data Condition : Type 0 where
  Equal : Expression → Expression → Condition
  Less : Expression → Expression → Condition
  Not : Condition → Condition
  And : Condition → Condition → Condition
  Or : Condition → Condition → Condition

-- `Put` has key, value and lease; `For` has variable, count, limit and body; a block is its statements in order
mutual
  pub data Statement : Type 0 where
    Set : ℕ → Expression → Statement
    Put : Expression → Expression → ℕ → Statement
    Del : Expression → Statement
    If : Condition → Block → Block → Statement
    For : ℕ → Expression → ℕ → Block → Statement
    Emit : Expression → Statement
    Abort : Expression → Statement

  pub data Block : Type 0 where
    End : Block
    Then : Statement → Block → Block

-- What a contract sees of a program. Each attempt reads the keys of its list before the first statement, in the list's order.
pub record ProgramTree : Type 0 where
  pub statements : Block
  pub prefetch : List (List ℕ)

-- the program of statements, and of nothing else
abbrev pub of_statements : Block → ProgramTree
of_statements b = record { statements = b; prefetch = [] }
