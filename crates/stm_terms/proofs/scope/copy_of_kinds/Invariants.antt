use Rattle.std.proofs.Common.{◌≡◌, take}
use Rattle.stm_terms.proofs.scope.copy_of_kinds.Given as goal

-- the kinds so far are copied
abbrev pub invariant-loop-kind : goal.invariant-loop-kind
invariant-loop-kind l = l.copy ≡ take l.kind-index l.kinds
