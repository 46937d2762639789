use Rattle.std.proofs.Common.{◌≡◌, take}
use Rattle.stm_terms.proofs.scope.Scope.copy.Given as goal

-- the names so far are copied
abbrev pub invariant-loop-name : goal.invariant-loop-name
invariant-loop-name l =
    l.names ≡ take l.name-index l.name-items
