-- The changes of single links. No public clause cites this module.
use Rattle.std.specs.Prelude.{ℕ, Option, Some, None, option_map, slice_set}
use Rattle.slab.specs.Slab.{Slab, get, ContainsKey}
use Rattle.stm_lists.specs.declared.links.Node.{Node}
use Rattle.stm_lists.specs.declared.links.Head.{Head}

-- the slab after a change of the value at one key
abbrev pub changed : {X : Type 0} → Slab X → ℕ → (X → X) → Slab X
changed s key f = record s { slots = slice_set s.slots key (option_map f (get s key)) }

module _ {T : Type 0} where
  -- a node, or the list where no node is named
  abbrev pub IsThere : Slab (Node T) → Slab Head → ℕ → Option ℕ → Type 0
  IsThere nodes heads list (Some node) = ContainsKey nodes node
  IsThere nodes heads list None = ContainsKey heads list

  abbrev pub next_set : Slab (Node T) → Option ℕ → Option ℕ → Slab (Node T)
  next_set nodes (Some node) to = changed nodes node (λ x. record x { next = to })
  next_set nodes None to = nodes

  abbrev pub previous_set : Slab (Node T) → Option ℕ → Option ℕ → Slab (Node T)
  previous_set nodes (Some node) to = changed nodes node (λ x. record x { previous = to })
  previous_set nodes None to = nodes

abbrev pub first_set : Slab Head → ℕ → Option ℕ → Option ℕ → Slab Head
first_set heads list (Some node) to = heads
first_set heads list None to = changed heads list (λ h. record h { first = to })

abbrev pub last_set : Slab Head → ℕ → Option ℕ → Option ℕ → Slab Head
last_set heads list (Some node) to = heads
last_set heads list None to = changed heads list (λ h. record h { last = to })
