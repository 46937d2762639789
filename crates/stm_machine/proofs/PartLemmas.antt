-- The parts that wait, as the code keeps them.
use Rattle.std.proofs.Common.{◌≡◌, refl, ℕ, zero, suc, ◌+◌, ◌≤◌, List, [], ◌∷◌, length, drop, arith}
use Rattle.std.proofs.lemmas.Bool.Decides.{nat_tests}
use Rattle.stm_program.specs.Syntax.{Statement}
use Rattle.stm_program.specs.BlockView.{block_of}
use Rattle.stm_machine.specs.Parts.{behind_first}

-- ---- the statements that are left of a block

behind_suc : (ss : List Statement) (i : ℕ) → block_of (drop (suc i) ss) ≡ behind_first (block_of (drop i ss))
behind_suc [] zero = refl
behind_suc [] (suc i) = refl
behind_suc (p ∷ ss) zero = refl
behind_suc (p ∷ ss) (suc i) = behind_suc ss i

pub behind_within : (ss : List Statement) (i : ℕ) → block_of (drop (i + 1) ss) ≡ behind_first (block_of (drop i ss))
behind_within ss i = grind (arith, nat_tests, behind_suc)

pub behind_past : (ss : List Statement) (i : ℕ) → length ss ≤ i → block_of (drop i ss) ≡ behind_first (block_of (drop i ss))
behind_past [] zero past = refl
behind_past [] (suc i) past = refl
behind_past (p ∷ ss) zero past = absurd (omega (arith, past))
behind_past (p ∷ ss) (suc i) past = behind_past ss i (omega (arith, past))

-- ---- the turns that are left of a loop
