-- How many nodes a tree has. An expression, a condition and a statement is a node.
use Rattle.std.specs.Prelude.{ℕ, ◌+◌}
use Rattle.stm_program.specs.Syntax.{Expression, Text, Number, Variable, Get, Rev, Arithmetic, Cat, TextOf, NumOf, Condition, Equal, Less, Not, And, Or}
use Rattle.stm_program.specs.Syntax.{Statement, Set, Put, Del, If, For, Emit, Abort, Block, End, Then}

abbrev pub expression_nodes : Expression → ℕ
expression_nodes (Text s) = 1
expression_nodes (Number z) = 1
expression_nodes (Variable v) = 1
expression_nodes (Get e) = 1 + expression_nodes e
expression_nodes (Rev e) = 1 + expression_nodes e
expression_nodes (Arithmetic o l r) = 1 + expression_nodes l + expression_nodes r
expression_nodes (Cat l r) = 1 + expression_nodes l + expression_nodes r
expression_nodes (TextOf e) = 1 + expression_nodes e
expression_nodes (NumOf e) = 1 + expression_nodes e

abbrev pub condition_nodes : Condition → ℕ
condition_nodes (Equal l r) = 1 + expression_nodes l + expression_nodes r
condition_nodes (Less l r) = 1 + expression_nodes l + expression_nodes r
condition_nodes (Not c) = 1 + condition_nodes c
condition_nodes (And c d) = 1 + condition_nodes c + condition_nodes d
condition_nodes (Or c d) = 1 + condition_nodes c + condition_nodes d

abbrev mutual
  pub statement_nodes : Statement → ℕ
  statement_nodes (Set v e) = 1 + expression_nodes e
  statement_nodes (Put k e l) = 1 + expression_nodes k + expression_nodes e
  statement_nodes (Del k) = 1 + expression_nodes k
  statement_nodes (If c t e) = 1 + condition_nodes c + block_nodes t + block_nodes e
  statement_nodes (For v e n b) = 1 + expression_nodes e + block_nodes b
  statement_nodes (Emit e) = 1 + expression_nodes e
  statement_nodes (Abort e) = 1 + expression_nodes e

  pub block_nodes : Block → ℕ
  block_nodes End = 0
  block_nodes (Then s b) = statement_nodes s + block_nodes b
