-- From heads and nodes to what contracts see.
use Rattle.std.proofs.Common.{◌≡◌, ℕ, zero, suc, ◌≤◌, List, [], ◌∷◌, ◌++◌, map, get_or, Option, Some, None, IsSome, option_map, unwrap_or}
use Rattle.std.proofs.Common.{refl, sym, ap, subst, ◌∙◌, inl, inr, arith}
use Rattle.std.proofs.lemmas.Bool.{cases_eq, cases_lt, Decides.nat_tests}
use Rattle.std.proofs.lemmas.List.{get_or-set_same, get_or-set_other, get_or_past}
use Rattle.std.proofs.lemmas.Option.{same_Some}
use Rattle.slab.specs.Slab.{Slab, get, ContainsKey, Updates as Changes}
use Rattle.stm_lists.specs.Lists.{Lists, Place, list_at, entries_at, HasList, HasNode, StandsAt, first_node, last_node, with_entries, Updates, MovesToBack}
use Rattle.stm_lists.specs.Lists.{IsApart}
use Rattle.stm_lists.specs.declared.links.Node.{Node}
use Rattle.stm_lists.specs.declared.links.Head.{Head}
use Rattle.stm_lists.specs.Chain.{first_or, last_or, walk, IsSegment, IsOn, entries_of, shown, node_at, IsSound, IsStored, IsPlaceOf, Shows, view_of}
use Rattle.stm_lists.proofs.Segments.{off-on, apart}
use Rattle.stm_lists.proofs.Changes.{Rebuilds, list_kept}
use Rattle.stm_lists.proofs.Steps.{some_is, place_of, head_of, record_at, place-names}

get_or-mapped : {X Y : Type 0} (f : X → Y) (xs : List (Option X)) (at : ℕ) → get_or (map (option_map f) xs) at None ≡ option_map f (get_or xs at None)
get_or-mapped f [] at = refl
get_or-mapped f (x ∷ xs) zero = refl
get_or-mapped f (x ∷ xs) (suc at) = get_or-mapped f xs at

module _ {T : Type 0} where
  pub list_at-view : (nodes : Slab (Node T)) (heads : Slab Head) (spare list : ℕ) → list_at (view_of nodes heads spare) list ≡ shown nodes heads list
  list_at-view nodes heads spare list = get_or-mapped (entries_of nodes) heads.slots list

  -- a list or a node that callers see is there
  module _ (nodes : Slab (Node T)) (heads : Slab Head) (spare : ℕ) (now : Lists T) (seen : view_of nodes heads spare ≡ now) where
    pub list_at-now : (list : ℕ) → list_at now list ≡ shown nodes heads list
    list_at-now list = ap (λ (s : Lists T). list_at s list) (sym seen) ∙ list_at-view nodes heads spare list

    pub place-now : (node : ℕ) (place : Place T) → StandsAt now node place → IsPlaceOf nodes heads node place
    place-now node place at = sym (list_at-now place.list) ∙ at.stands

    pub stands-now : (node : ℕ) (place : Place T) → IsPlaceOf nodes heads node place → StandsAt now node place
    stands-now node place at = record { stands = list_at-now place.list ∙ at }

    pub contains_node : IsSound nodes heads → (node : ℕ) → HasNode now node → ContainsKey nodes node
    contains_node sound node has = some_is _ _ (place-names nodes heads node has.0 sound (place-now node has.0 has.1))

    -- a vacant slot is no node
    pub fresh-now : IsSound nodes heads → (node : ℕ) → get nodes node ≡ None → HasNode now node → ⊥
    fresh-now sound node vacant has = let there = place-names nodes heads node has.0 sound (place-now node has.0 has.1) in absurd (cc)

    pub contains_list : (list : ℕ) → HasList now list → ContainsKey heads list
    contains_list list has = grind (arith, nat_tests, list_at-now)

    pub has_node : IsSound nodes heads → (node : ℕ) → ContainsKey nodes node → HasNode now node
    has_node sound node there = by_node (get nodes node) refl there
      where
        by_node : (o : Option (Node T)) → get nodes node ≡ o → IsSome o → HasNode now node
        by_node None found some = absurd (cc)
        by_node (Some x) found some =
            let place = place_of nodes heads node x sound found in
            (place.0, stands-now node place.0 place.1)

    pub has_list : (list : ℕ) → ContainsKey heads list → HasList now list
    has_list list there = grind (arith, nat_tests, list_at-now)

    -- the record of a node gives its place
    pub node-now : IsSound nodes heads → (node : ℕ) (x : Node T) → get nodes node ≡ Some x → (place : Place T) → StandsAt now node place
        → x ≡ record_at nodes heads place
    node-now sound node x found place at = same_Some _ _ (sym found ∙ place-names nodes heads node place sound (place-now node place at))

    -- the head of a list gives its entries
    pub entries-now : (list : ℕ) (h : Head) → get heads list ≡ Some h → entries_at now list ≡ entries_of nodes h
    entries-now list h found = ap (λ o. unwrap_or o []) (list_at-now list ∙ ap (option_map (entries_of nodes)) found)

    pub apart-now : IsSound nodes heads → (list : ℕ) → IsApart (entries_at now list)
    apart-now sound list = by_head (get heads list) refl
      where
        by_head : (o : Option Head) → get heads list ≡ o → IsApart (entries_at now list)
        by_head None found = rw (list_at-now list, found) tt
        by_head (Some h) found = subst IsApart (sym (entries-now list h found)) (apart nodes list None (entries_of nodes h) (sound.linked list h found).linked)

    -- what is shown of a list that callers see
    pub shown-now : (list : ℕ) → HasList now list → shown nodes heads list ≡ Some (entries_at now list)
    shown-now list has = grind (arith, nat_tests, list_at-now)

    -- one changed list, as callers see it
    pub updates-now : (new_nodes : Slab (Node T)) (new_heads : Slab Head) (new_spare list : ℕ) (entries : List (ℕ × T))
        → Shows nodes heads new_nodes new_heads list entries → Updates now (view_of new_nodes new_heads new_spare) list (Some entries)
    updates-now new_nodes new_heads new_spare list entries shows =
        record {
          changed = list_at-view new_nodes new_heads new_spare list ∙ shows.changed;
          others = λ other differs. list_at-view new_nodes new_heads new_spare other ∙ shows.others other differs ∙ sym (list_at-now other);
        }

    -- a node that leaves its place and comes to the back of a list
    module _ (node : ℕ) (place : Place T) (at : StandsAt now node place) (left_nodes : Slab (Node T)) (left_heads : Slab Head)
        (left : Shows nodes heads left_nodes left_heads place.list (place.before ++ place.after)) where
      list_at-left : (list : ℕ) → list_at (with_entries now place.list (place.before ++ place.after)) list ≡ shown left_nodes left_heads list
      list_at-left list = grind (arith, nat_tests, cases_eq, get_or-set_same, cases_lt, get_or-set_other, list_at-now, get_or_past)

      pub left_contains : (list : ℕ) → HasList now list → ContainsKey left_heads list
      left_contains list has = grind (arith, nat_tests, cases_eq, some_is, list_at-now)

      pub moves-now : (new_nodes : Slab (Node T)) (new_heads : Slab Head) (new_spare list moved : ℕ) (value : T) → HasList now list → moved ≡ node
          → value ≡ place.value → ((entries : List (ℕ × T)) → shown left_nodes left_heads list ≡ Some entries
          → Shows left_nodes left_heads new_nodes new_heads list (entries ++ (moved, value) ∷ []))
          → MovesToBack now (view_of new_nodes new_heads new_spare) node place list
      moves-now new_nodes new_heads new_spare list moved value has same_node same_value pushed =
          let head = left_head (get left_heads list) refl (left_contains list has) in
          let entries : entries_at (with_entries now place.list (place.before ++ place.after)) list ≡ entries_of left_nodes head.0 =
          ap (λ o. unwrap_or o []) (list_at-left list ∙ ap (option_map (entries_of left_nodes)) head.1) in
          let shows = pushed (entries_of left_nodes head.0) (ap (option_map (entries_of left_nodes)) head.1) in
          record {
            changed = list_at-view new_nodes new_heads new_spare list ∙ shows.changed ∙ rw (entries, same_node, same_value) refl;
            others = λ other differs. list_at-view new_nodes new_heads new_spare other ∙ shows.others other differs ∙ sym (list_at-left other);
          }
        where
          left_head : (o : Option Head) → get left_heads list ≡ o → IsSome o → (h : Head) × (get left_heads list ≡ Some h)
          left_head None found some = absurd (cc)
          left_head (Some h) found some = (h, found)

  -- the first and the last node, where nothing follows or precedes
  pub first_or-node : (xs : List (ℕ × T)) → first_or xs None ≡ first_node xs
  first_or-node xs = grind (arith, nat_tests)

  pub last_or-node : (xs : List (ℕ × T)) → last_or None xs ≡ last_node xs
  last_or-node [] = refl
  last_or-node (x ∷ []) = refl
  last_or-node (x ∷ (y ∷ ys)) = last_or-node (y ∷ ys)

  -- a node that names its neighbours at a place
  abbrev pub naming : Place T → Option ℕ → Option ℕ → Node T
  naming place previous next = record { list = place.list; previous = previous; next = next; value = place.value }

  pub names-neighbours : (place : Place T) → naming place (last_or None place.before) (first_or place.after None) ≡ node_at place
  names-neighbours place = grind (arith, nat_tests, last_or-node, first_or-node)

  -- slabs that hold the same under each key
  module _ (nodes new_nodes : Slab (Node T)) (same : (node : ℕ) → get new_nodes node ≡ get nodes node) where
    by_node : (count node : ℕ) (o : Option (Node T)) → ((link : Option ℕ) → walk new_nodes count link ≡ walk nodes count link)
        → (elim o as (λ _. List (ℕ × T)) [ None ↦ [] | Some y ↦ (node, y.value) ∷ walk new_nodes count y.next ]) ≡
        (elim o as (λ _. List (ℕ × T)) [ None ↦ [] | Some y ↦ (node, y.value) ∷ walk nodes count y.next ])
    by_node count node o rest = grind (arith, nat_tests)

    walk-same : (count : ℕ) (link : Option ℕ) → walk new_nodes count link ≡ walk nodes count link
    unfolding walk
    walk-same zero link = refl
    walk-same (suc count) None = refl
    walk-same (suc count) (Some node) =
        ap (λ (o : Option (Node T)). elim o as (λ _. List (ℕ × T)) [ None ↦ [] | Some y ↦ (node, y.value) ∷ walk new_nodes count y.next ]) (same node)
        ∙ by_node count node (get nodes node) (λ link. walk-same count link)

    view-same : (slots : List (Option Head)) → map (option_map (entries_of new_nodes)) slots ≡ map (option_map (entries_of nodes)) slots
    view-same [] = refl
    view-same (None ∷ slots) = ap (λ more. None ∷ more) (view-same slots)
    view-same (Some h ∷ slots) = rw (walk-same h.len h.first, view-same slots) refl

    pub view_of-same : (heads : Slab Head) (spare : ℕ) → view_of new_nodes heads spare ≡ view_of nodes heads spare
    view_of-same heads spare = ap (λ lists. record { lists = lists; spare = spare }) (view-same heads.slots)

    pub sound-same : (heads : Slab Head) → IsSound nodes heads → IsSound new_nodes heads
    sound-same heads sound =
        record {
          linked = λ list h found. rw (walk-same h.len h.first)
              (list_kept nodes new_nodes list h (entries_of nodes h) (λ node owned. same node) (sound.linked list h found));
          owned = λ node list owns.
              let found = sound.owned node list (ap (option_map (λ (x : Node T). x.list)) (sym (same node)) ∙ owns) in
              (found.0, found.1, subst (IsOn node) (sym (walk-same found.0.len found.0.first)) found.2);
        }

  -- a slab that has only grown
  module _ (nodes grown : Slab (Node T)) (rest : grown ≡ record nodes { capacity = grown.capacity }) (heads : Slab Head) (spare : ℕ) where
    pub grown-sound : IsSound nodes heads → IsSound grown heads
    grown-sound = sound-same nodes grown (λ n. ap (λ (s : Slab (Node T)). get s n) rest) heads

    pub grown-view : view_of grown heads spare ≡ view_of nodes heads spare
    grown-view = view_of-same nodes grown (λ n. ap (λ (s : Slab (Node T)). get s n) rest) heads spare

    pub grown-stored : nodes.capacity ≤ grown.capacity → IsStored nodes heads spare → IsStored grown heads spare
    grown-stored more stored = grind (arith, nat_tests, grown-sound)

  -- no node stands twice on one list, so an entry has one place
  one_split : (node : ℕ) (v w : T) (b c a d : List (ℕ × T)) → IsApart (b ++ (node, v) ∷ a) → b ++ (node, v) ∷ a ≡ c ++ (node, w) ∷ d
      → (b ≡ c) × (v ≡ w) × (a ≡ d)
  one_split node v w [] [] a d distinct same =
      let first : ◌≡◌ {A = ℕ × T} (node, v) (node, w) = cc in
      (refl, ap (λ (e : ℕ × T). e.1) first, (cc))
  one_split node v w [] (y ∷ c) a d distinct same =
      let rest : a ≡ c ++ (node, w) ∷ d = cc in
      absurd (off-on node a distinct.0 (subst (IsOn node) (sym rest) (on_middle c)))
    where
      on_middle : (xs : List (ℕ × T)) → IsOn node (xs ++ (node, w) ∷ d)
      on_middle [] = inl refl
      on_middle (x ∷ xs) = inr (on_middle xs)
  one_split node v w (x ∷ b) [] a d distinct same =
      let first : x ≡ (node, w) = cc in
      absurd (off-on x.0 (b ++ (node, v) ∷ a) distinct.0 (subst (λ (k : ℕ). IsOn k (b ++ (node, v) ∷ a)) (sym (ap (λ (e : ℕ × T). e.0) first)) (on_middle b)))
    where
      on_middle : (xs : List (ℕ × T)) → IsOn node (xs ++ (node, v) ∷ a)
      on_middle [] = inl refl
      on_middle (x ∷ xs) = inr (on_middle xs)
  one_split node v w (x ∷ b) (y ∷ c) a d distinct same =
      let first : x ≡ y = cc in
      let rest : b ++ (node, v) ∷ a ≡ c ++ (node, w) ∷ d = cc in
      let more = one_split node v w b c a d distinct.1 rest in
      (rw (first, more.0) refl, more.1, more.2)

  -- two places of one node are one place
  pub one_place : (nodes : Slab (Node T)) (heads : Slab Head) → IsSound nodes heads → (node : ℕ) (one other : Place T) → IsPlaceOf nodes heads node one
      → IsPlaceOf nodes heads node other → one ≡ other
  one_place nodes heads sound node one other at there =
      let first = place-names nodes heads node one sound at in
      let second = place-names nodes heads node other sound there in
      let same : record_at nodes heads one ≡ record_at nodes heads other = same_Some _ _ (sym first ∙ second) in
      let list : one.list ≡ other.list = ap (λ (x : Node T). x.list) same in
      let h = head_of nodes heads one.list _ at in
      let linked = (sound.linked one.list h.0 h.1).linked in
      let distinct = subst IsApart h.2 (apart nodes one.list None (entries_of nodes h.0) linked) in
      let entries : one.before ++ (node, one.value) ∷ one.after ≡ other.before ++ (node, other.value) ∷ other.after =
      same_Some _ _ (sym at ∙ ap (shown nodes heads) list ∙ there) in
      let parts = one_split node one.value other.value one.before other.before one.after other.after distinct entries in
      rebuild one.list other.list one.before other.before one.value other.value one.after other.after list parts.0 parts.1 parts.2
    where
      rebuild : (l m : ℕ) (b c : List (ℕ × T)) (v w : T) (a d : List (ℕ × T)) → l ≡ m → b ≡ c → v ≡ w → a ≡ d
          → ◌≡◌ {A = Place T} (record { list = l; before = b; value = v; after = a }) (record { list = m; before = c; value = w; after = d })
      rebuild l m b c v w a d p q r s = rw (p, q, r, s) refl

  -- a new list has no nodes
  pub new_list-rebuilds : (nodes : Slab (Node T)) (heads new_heads : Slab Head) (list : ℕ) → IsSound nodes heads → get heads list ≡ None
      → Changes heads new_heads list (Some (record { first = None; last = None; len = 0 }))
      → Rebuilds nodes heads nodes new_heads list (record { first = None; last = None; len = 0 }) []
  unfolding IsSegment
  new_list-rebuilds nodes heads new_heads list sound vacant made = grind (arith, nat_tests)

  -- an empty list that goes leaves the others
  pub dropped-sound : (nodes : Slab (Node T)) (heads new_heads : Slab Head) (list : ℕ) → IsSound nodes heads → shown nodes heads list ≡ Some []
      → Changes heads new_heads list None → IsSound nodes new_heads
  dropped-sound nodes heads new_heads list sound empty gone =
      record {
        linked = λ other h found. elim (cases_eq other list) [
          | inl same ↦ let none = ap (get new_heads) same ∙ gone.changed in absurd (cc)
          | inr differs ↦ sound.linked other h (sym (gone.others other differs) ∙ found)
        ];
        owned = λ node other owns.
            let found = sound.owned node other owns in
            elim (cases_eq other list) [
              | inl same ↦
                  let nothing : entries_of nodes found.0 ≡ [] =
                  same_Some _ _ (sym (ap (option_map (entries_of nodes)) (ap (get heads) (sym same) ∙ found.1)) ∙ empty) in
                  absurd (subst (IsOn node) nothing found.2)
              | inr differs ↦ (found.0, gone.others other differs ∙ found.1, found.2)
            ];
      }

  pub dropped-updates : (nodes : Slab (Node T)) (heads new_heads : Slab Head) (spare list : ℕ) (now : Lists T) → view_of nodes heads spare ≡ now
      → Changes heads new_heads list None → Updates now (view_of nodes new_heads spare) list None
  dropped-updates nodes heads new_heads spare list now seen gone =
      record {
        changed = list_at-view nodes new_heads spare list ∙ ap (option_map (entries_of nodes)) gone.changed;
        others = λ other differs. list_at-view nodes new_heads spare other ∙ ap (option_map (entries_of nodes)) (gone.others other differs)
            ∙ sym (list_at-now nodes heads spare now seen other);
      }
