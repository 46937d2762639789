use Rattle.std.proofs.Common.{◌≡◌, ◌≤◌, drop}
use Rattle.stm_terms.specs.Scope.{numbered_from}
use Rattle.stm_terms.proofs.scope.are_numbered.Given as goal

-- what is left decides
abbrev pub invariant-loop-index : goal.invariant-loop-index
invariant-loop-index l =
    (numbered_from 0 l.tokens ≡ numbered_from l.depth (drop l.index l.tokens)) × (l.depth ≤ l.index)
