use Rattle.std.proofs.Common.{◌≡◌, ℕ, map, take}
use Rattle.stm_alike.specs.Levelled.{carrying}
use Rattle.stm_alike.proofs.answers.show_the_same.Given as goal

abbrev pub invariant-loop-i : goal.invariant-loop-i
invariant-loop-i l = (n : ℕ) → map (carrying n) (take l.i l.left) ≡ map (carrying n) (take l.i l.right)
