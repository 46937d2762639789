use Rattle.std.proofs.Common.{◌≡◌, ◌-◌}
use Rattle.stm_terms.specs.Conditions.{negated}
use Rattle.stm_terms.proofs.conditions.negated.Given as goal

-- those that are left lead to all
abbrev pub invariant-loop-done : goal.invariant-loop-done
invariant-loop-done l =
    negated (l.fn.count - l._done) l.condition ≡ negated l.fn.count l.fn.condition
