-- A measure that falls from a statement to its blocks and from a block to its statements: a block counts as one, beside its statements.
use Rattle.std.specs.Prelude.{ℕ, ◌+◌, ◌≤◌, List, [], ◌∷◌}
use Rattle.std.proofs.Common.{arith}
use denote.Param.Weighed.{most}
use Rattle.stm_program.specs.Syntax.{Statement, Set, Put, Del, If, For, Emit, Abort, Block, End, Then}
use Rattle.stm_program.specs.BlockView.{block_of}

abbrev mutual
  pub statement_weight : Statement → ℕ
  statement_weight (Set v e) = 1
  statement_weight (Put k e l) = 1
  statement_weight (Del k) = 1
  statement_weight (If c t e) = 1 + block_weight t + block_weight e
  statement_weight (For v e n b) = 1 + block_weight b
  statement_weight (Emit e) = 1
  statement_weight (Abort e) = 1

  pub block_weight : Block → ℕ
  block_weight End = 1
  block_weight (Then s b) = statement_weight s + block_weight b

pub block_weight-positive : (ss : List Statement) → 1 ≤ block_weight (block_of ss)
block_weight-positive [] = omega arith
block_weight-positive (s ∷ ss) = omega (arith, block_weight-positive ss)

-- no statement weighs as much as the block that it stands in
pub most_le-block_weight : (ss : List Statement) → most (λ s. statement_weight s + 1) ss ≤ block_weight (block_of ss)
most_le-block_weight [] = omega arith
most_le-block_weight (s ∷ ss) = omega (arith, most_le-block_weight ss, block_weight-positive ss)
