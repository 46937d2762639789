-- The first statement of a block, and the block of the others, weigh less than the block.
use Rattle.std.proofs.Common.{◌≡◌, ◌≤◌, ◌+◌, List, [], ◌∷◌, length, get_or, take, drop, ◌-◌, arith, ap}
use Rattle.std.proofs.lemmas.List.{take_rest}
use Rattle.std.proofs.lemmas.Bool.Decides.{nat_tests}
use Rattle.stm_program.specs.Syntax.{Statement, Set}
use Rattle.stm_program.specs.BlockView.{block_of}
use Rattle.stm_program.specs.Weight.{statement_weight, block_weight, block_weight-positive}

pub statement_weight-positive : (s : Statement) → 1 ≤ statement_weight s
statement_weight-positive (Set v e) = omega arith
statement_weight-positive _ = omega arith

pub first_weight : (ss : List Statement) (s : Statement) → 1 ≤ length ss → s ≡ get_or ss 0 s → statement_weight s + 1 ≤ block_weight (block_of ss)
first_weight [] s h e = absurd (omega arith)
first_weight (x ∷ xs) s h e = omega (arith, ap statement_weight e, block_weight-positive xs)

tail_weight : (ss : List Statement) → 1 ≤ length ss → block_weight (block_of (drop 1 ss)) + 1 ≤ block_weight (block_of ss)
tail_weight ss h = grind (arith, nat_tests, statement_weight-positive)

pub rest_weight : (ss : List Statement) → 1 ≤ length ss → block_weight (block_of (take (length ss - 1) (drop 1 ss))) + 1 ≤ block_weight (block_of ss)
rest_weight ss h = omega (arith, tail_weight ss h, ap (λ (xs : List Statement). block_weight (block_of xs)) (take_rest ss 1))
