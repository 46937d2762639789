use Rattle.std.proofs.Common.{◌≡◌, ◌+◌, drop}
use Rattle.stm_terms.specs.Conditions.{negations}
use Rattle.stm_terms.proofs.conditions.negations.Given as goal

-- all so far are signs of negation
abbrev pub invariant-loop-index : goal.invariant-loop-index
invariant-loop-index l =
    negations l.tokens ≡ l.index + negations (drop l.index l.tokens)
