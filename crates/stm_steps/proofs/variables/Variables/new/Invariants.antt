use Rattle.std.proofs.Common.{◌≡◌, pos, replicate}
use Rattle.stm_steps.specs.declared.value.Value.TheVariants.{Number}
use Rattle.stm_steps.proofs.variables.Variables.new.Given as goal

abbrev pub invariant-loop : goal.invariant-loop
invariant-loop l = l.values.items ≡ replicate l.counter (Number (pos 0))
