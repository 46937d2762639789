use Rattle.std.proofs.Common.{◌≡◌, drop}
use Rattle.stm_program.specs.Operators.{named_in}
use Rattle.stm_program.proofs.operator.named_in.Given as goal

-- none of those so far has the word
abbrev pub invariant-loop-operator : goal.invariant-loop-operator
invariant-loop-operator l = named_in (drop l.operator-index l.operators) l.word ≡ named_in l.operators l.word
