-- How nodes and heads make up the lists. No public clause cites this module.
use Rattle.std.specs.Prelude.{◌≡◌, ◌≢◌, ◌⊎◌, ℕ, zero, suc, List, [], ◌∷◌, ◌++◌, length, map, Option, Some, None, option_map, ◌+◌, ◌≤◌}
use Rattle.slab.specs.Slab.{Slab, get, slab_len}
use Rattle.stm_lists.specs.Lists.{Lists, Place, first_node, last_node}
use Rattle.stm_lists.specs.declared.links.Node.{Node}
use Rattle.stm_lists.specs.declared.links.Head.{Head}

module _ {T : Type 0} where
  -- the first of these nodes, or what follows them where there is none
  abbrev pub first_or : List (ℕ × T) → Option ℕ → Option ℕ
  first_or [] after = after
  first_or (entry ∷ rest) after = Some entry.0

  -- the last of these nodes, or what precedes them where there is none
  abbrev pub last_or : Option ℕ → List (ℕ × T) → Option ℕ
  last_or before [] = before
  last_or before (entry ∷ rest) = last_or (Some entry.0) rest

  -- at most `count` nodes with their values, from this one on
  unfoldable pub walk : Slab (Node T) → ℕ → Option ℕ → List (ℕ × T)
  walk nodes zero link = []
  walk nodes (suc count) None = []
  walk nodes (suc count) (Some node) =
      elim (get nodes node) [ None ↦ [] | Some x ↦ (node, x.value) ∷ walk nodes count x.next ]

  -- the nodes of a part of a list: each stands on the list and names its neighbours
  unfoldable pub IsSegment : Slab (Node T) → ℕ → Option ℕ → List (ℕ × T) → Option ℕ → Type 0
  IsSegment nodes list before [] after = Unit {0}
  IsSegment nodes list before (entry ∷ rest) after =
      (get nodes entry.0
      ≡ Some (record { list = list; previous = before; next = first_or rest after; value = entry.1 }))
      × IsSegment nodes list (Some entry.0) rest after

  -- the head names the ends and the number of these nodes, which are linked
  pub record IsList (nodes : Slab (Node T)) (list : ℕ) (h : Head) (entries : List (ℕ × T)) : Type 0 where
    pub first : h.first ≡ first_or entries None
    pub last : h.last ≡ last_or None entries
    pub len : h.len ≡ length entries
    pub linked : IsSegment nodes list None entries None

  -- the node is among these
  abbrev pub IsOn : ℕ → List (ℕ × T) → Type 0
  IsOn node [] = ⊥
  IsOn node (entry ∷ rest) = (entry.0 ≡ node) ⊎ IsOn node rest

  -- the list that a node names as its own
  abbrev pub owner_at : Slab (Node T) → ℕ → Option ℕ
  owner_at nodes node = option_map (λ x. x.list) (get nodes node)

  -- the entries of a list by its head
  abbrev pub entries_of : Slab (Node T) → Head → List (ℕ × T)
  entries_of nodes h = walk nodes h.len h.first

  -- the entries of each list
  abbrev pub shown : Slab (Node T) → Slab Head → ℕ → Option (List (ℕ × T))
  shown nodes heads list = option_map (entries_of nodes) (get heads list)

  -- the node stands at this place
  abbrev pub IsPlaceOf : Slab (Node T) → Slab Head → ℕ → Place T → Type 0
  IsPlaceOf nodes heads node place =
      shown nodes heads place.list ≡ Some (place.before ++ (node, place.value) ∷ place.after)

  -- what is stored of the node at a place
  abbrev pub node_at : Place T → Node T
  node_at place = record { list = place.list; previous = last_node place.before; next = first_node place.after; value = place.value }

  -- each head leads along its list, and each node stands on the list that it names
  pub record IsSound (nodes : Slab (Node T)) (heads : Slab Head) : Type 0 where
    pub linked : (list : ℕ) (h : Head) → get heads list ≡ Some h → IsList nodes list h (entries_of nodes h)
    pub owned : (node list : ℕ) → owner_at nodes node ≡ Some list
        → (h : Head) × (get heads list ≡ Some h) × IsOn node (entries_of nodes h)

  -- one list has these entries now, and every other what it had
  pub record Shows (old_nodes : Slab (Node T)) (old_heads : Slab Head) (nodes : Slab (Node T)) (heads : Slab Head) (list : ℕ)
      (entries : List (ℕ × T)) : Type 0 where
    pub changed : shown nodes heads list ≡ Some entries
    pub others : (other : ℕ) → other ≢ list → shown nodes heads other ≡ shown old_nodes old_heads other

  -- what contracts see of these fields
  abbrev pub view_of : Slab (Node T) → Slab Head → ℕ → Lists T
  view_of nodes heads spare = record { lists = map (option_map (entries_of nodes)) heads.slots; spare = spare }

  -- the lists are sound, and the pushes that are certain have room
  pub record IsStored (nodes : Slab (Node T)) (heads : Slab Head) (spare : ℕ) : Type 0 where
    pub sound : IsSound nodes heads
    pub room : slab_len nodes + spare ≤ nodes.capacity
