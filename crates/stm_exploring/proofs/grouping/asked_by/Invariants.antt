use Rattle.std.proofs.Common.{◌≡◌, map, take}
use Rattle.stm_exploring.specs.declared.rules.Rule.{Rule}
use Rattle.stm_exploring.proofs.grouping.asked_by.Given as goal

-- the programs of the rules so far
abbrev pub invariant-loop-rule : goal.invariant-loop-rule
invariant-loop-rule l = l.asked.items ≡ map (λ (rule : Rule). rule.program) (take l.rule-index l.rules)
