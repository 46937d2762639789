use Rattle.std.proofs.Common.{◌≡◌, ◌-◌, [], length}
use Rattle.stm_terms.specs.declared.kinds.Kind.TheVariants.{Either}
use Rattle.stm_terms.specs.Items.{items_as, items_from}
use Rattle.stm_terms.proofs.items.list_of_items.Given as goal

-- what is left leads to all
abbrev pub invariant-loop-turn : goal.invariant-loop-turn
invariant-loop-turn l =
    items_from l.fn.scope l.fn.lists (length l.fn.tokens - l._turn) l.before l.rest
    ≡ items_from l.fn.scope l.fn.lists (length l.fn.tokens) (items_as [] Either) l.fn.tokens
