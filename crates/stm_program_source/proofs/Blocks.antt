-- Statements, one after the other.
use Rattle.std.proofs.Common.{◌≡◌, ℕ, zero, suc, ◌+◌, ◌<◌, ◌≤◌, List, [], ◌∷◌, length, get_or, refl, ap, arith}
use Rattle.stm_program.specs.Syntax.{Statement}
use Rattle.stm_program.specs.BlockView.{block_of}
use Rattle.stm_program.specs.Size.{statement_nodes, block_nodes}
use Rattle.stm_program.specs.Weight.{statement_weight, block_weight, block_weight-positive}
use Rattle.stm_program.proofs.WeightLemmas.{statement_weight-positive}
use Rattle.stm_program_source.specs.Texts.{filled, braced}
use Rattle.stm_program_source.specs.Statements.{shown_statements}

-- no statement has more nodes than its block
pub item_nodes : (ss : List Statement) (i : ℕ) (s : Statement) → i < length ss → s ≡ get_or ss i s → statement_nodes s ≤ block_nodes (block_of ss)
item_nodes [] i s h e = absurd (omega arith)
item_nodes (t ∷ ss) zero s h e = omega (arith, ap statement_nodes e)
item_nodes (t ∷ ss) (suc i) s h e = omega (arith, item_nodes ss i s (omega arith) e)

-- each statement weighs less than its block
pub item_weight : (ss : List Statement) (i : ℕ) (s : Statement) → i < length ss → s ≡ get_or ss i s → statement_weight s + 1 ≤ block_weight (block_of ss)
item_weight [] i s h e = absurd (omega arith)
item_weight (t ∷ ss) zero s h e = omega (arith, ap statement_weight e, block_weight-positive ss)
item_weight (t ∷ ss) (suc i) s h e = omega (arith, item_weight ss i s (omega arith) e, statement_weight-positive t)

-- a block of some statements is not empty
pub some_filled : (blocks : ℕ) (ss : List Statement) → 1 ≤ length ss
    → filled blocks (shown_statements (blocks + 1) (block_of ss)) ≡ braced blocks (shown_statements (blocks + 1) (block_of ss))
some_filled blocks [] some = absurd (omega arith)
some_filled blocks (s ∷ ss) some = refl
