use Rattle.std.proofs.Common.{◌≡◌, drop}
use Rattle.stm_tokens.specs.Numbers.{value_from}
use Rattle.stm_tokens.proofs.numbers.number_of.Given as goal

-- what is left leads from here to the value
abbrev pub invariant-loop-digit : goal.invariant-loop-digit
invariant-loop-digit l = value_from l.value (drop l.digit-index l.digits) ≡ value_from 0 l.digits
