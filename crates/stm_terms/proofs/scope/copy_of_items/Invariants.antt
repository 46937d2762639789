use Rattle.std.proofs.Common.{◌≡◌, take}
use Rattle.stm_terms.proofs.scope.copy_of_items.Given as goal

-- the items so far are copied
abbrev pub invariant-loop-item : goal.invariant-loop-item
invariant-loop-item l = l.copy ≡ take l.item-index l.items
