use Rattle.std.proofs.Common.{◌≡◌, map, take}
use Rattle.stm_alike.specs.Levelled.{undated}
use Rattle.stm_alike.proofs.answers.find_the_same.Given as goal

abbrev pub invariant-loop-i : goal.invariant-loop-i
invariant-loop-i l = map undated (take l.i l.left) ≡ map undated (take l.i l.right)
