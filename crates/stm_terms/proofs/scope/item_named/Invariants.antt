use Rattle.std.proofs.Common.{◌≡◌, drop}
use Rattle.stm_terms.specs.Scope.{item_named}
use Rattle.stm_terms.proofs.scope.item_named.Given as goal

-- none of the items so far has this name
abbrev pub invariant-loop-named : goal.invariant-loop-named
invariant-loop-named l = item_named l.name l.items ≡ item_named l.name (drop l.named-index l.items)
