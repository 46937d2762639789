use Rattle.std.proofs.Common.{◌≡◌, drop}
use Rattle.stm_program.specs.Operators.{signed_in}
use Rattle.stm_program.proofs.operator.signed_in.Given as goal

-- none of those so far has the sign
abbrev pub invariant-loop-operator : goal.invariant-loop-operator
invariant-loop-operator l = signed_in (drop l.operator-index l.operators) l.bytes ≡ signed_in l.operators l.bytes
