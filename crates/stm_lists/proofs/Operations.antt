-- What `unlink` and `push` need on their way, and what they leave.
use Rattle.std.proofs.Common.{◌≡◌, ◌≢◌, ℕ, ◌+◌, ◌-◌, ◌<◌, ◌≤◌, List, [], ◌∷◌, ◌++◌, Option, Some, None, option_map, refl, sym, ap, subst, ◌∙◌, inl}
use Rattle.std.proofs.Common.{inr, arith, length-append}
use Rattle.std.proofs.lemmas.Option.{same_Some}
use Rattle.std.proofs.lemmas.Bool.Decides.{nat_tests}
use Rattle.slab.specs.Slab.{Slab, get, ContainsKey, Updates, slab_len}
use Rattle.stm_lists.specs.Lists.{Place}
use Rattle.stm_lists.specs.declared.links.Node.{Node}
use Rattle.stm_lists.specs.declared.links.Head.{Head}
use Rattle.stm_lists.specs.Links.{IsThere, changed, next_set, previous_set, first_set, last_set}
use Rattle.stm_lists.specs.Chain.{first_or, last_or, IsSegment, IsList, IsOn, owner_at, entries_of, shown, IsSound, IsPlaceOf, Shows}
use Rattle.stm_lists.proofs.Segments.{last_is_on, first_is_on, segment-append, segment_owner, apart, parted, off-on}
use Rattle.stm_lists.proofs.Changes.{Rebuilds, rebuilt-sound, rebuilt-shows, owner-next_set, owner-previous_set}
use Rattle.stm_lists.proofs.Counts.{length-segment}
use Rattle.stm_lists.proofs.Steps.{some_is, get-first_set, get-last_set, place_of, head_of, record_at, place-names, unlinked-rebuilds, pushed-rebuilds}

module _ {T : Type 0} where
  -- a link is there, where the node that it names stands on the list
  link_there : (s : Slab (Node T)) (heads : Slab Head) (list : ℕ) (h : Head) (link : Option ℕ) → get heads list ≡ Some h
      → ((key : ℕ) → link ≡ Some key → owner_at s key ≡ Some list) → IsThere s heads list link
  link_there s heads list h link found named = grind (arith, nat_tests, some_is)

  last_on : (xs : List (ℕ × T)) (key : ℕ) → last_or None xs ≡ Some key → IsOn key xs
  last_on xs key is = elim (last_is_on None xs key is) [ inl none ↦ absurd (cc) | inr on ↦ on ]

  -- the nodes and the heads after an unlinking of a node with this record
  abbrev pub nodes_after : Slab (Node T) → Node T → Slab (Node T)
  nodes_after bare x = previous_set (next_set bare x.previous x.next) x.next x.previous

  abbrev pub heads_between : Slab Head → Node T → Slab Head
  heads_between heads x = last_set (first_set heads x.list x.previous x.next) x.list x.next x.previous

  abbrev pub heads_after : Slab Head → Node T → Slab Head
  heads_after heads x = changed (heads_between heads x) x.list (λ k. record k { len = k.len - 1 })

  -- what an unlinking needs on its way
  pub record CanUnlink (bare : Slab (Node T)) (heads : Slab Head) (x : Node T) : Type 0 where
    pub previous : IsThere bare heads x.list x.previous
    pub next : IsThere (next_set bare x.previous x.next) (first_set heads x.list x.previous x.next) x.list x.next
    pub head : ContainsKey (heads_between heads x) x.list
    pub filled : (h : Head) → get (heads_between heads x) x.list ≡ Some h → 0 < h.len

  module _ (nodes : Slab (Node T)) (heads : Slab Head) (bare : Slab (Node T)) (node : ℕ) (sound : IsSound nodes heads)
      (gone : Updates nodes bare node None) where
    -- the node's slot is vacant afterwards
    pub unlink-gone : (x : Node T) → get (nodes_after bare x) node ≡ None
    unlink-gone x =
        nothing (get (nodes_after bare x) node)
        (owner-previous_set (next_set bare x.previous x.next) x.next x.previous node ∙ owner-next_set bare x.previous x.next node
        ∙ ap (option_map (λ (y : Node T). y.list)) gone.changed)
      where
        nothing : (o : Option (Node T)) → option_map (λ (y : Node T). y.list) o ≡ None → o ≡ None
        nothing None is = refl
        nothing (Some y) is = absurd (cc)

    can_unlink_at : (place : Place T) → IsPlaceOf nodes heads node place → CanUnlink bare heads (record_at nodes heads place)
    unfolding IsSegment
    can_unlink_at place at =
        let h = head_of nodes heads place.list _ at in
        let was : IsList nodes place.list h.0 (place.before ++ (node, place.value) ∷ place.after) =
        subst (IsList nodes place.list h.0) h.2 (sound.linked place.list h.0 h.1) in
        let parts = segment-append nodes place.list None place.before ((node, place.value) ∷ place.after) None was.linked in
        let distinct = parted place.before place.after node place.value
        (apart nodes place.list None (place.before ++ (node, place.value) ∷ place.after) was.linked) in
        let bare_owner : (key : ℕ) → key ≢ node → owner_at nodes key ≡ Some place.list → owner_at bare key ≡ Some place.list =
        λ (key : ℕ) differs owned. ap (option_map (λ (x : Node T). x.list)) (gone.others key differs) ∙ owned in
        let before_named : (key : ℕ) → last_or None place.before ≡ Some key → owner_at bare key ≡ Some place.list =
        λ (key : ℕ) is. bare_owner key
        (λ same. off-on node place.before distinct.off_before (subst (λ (k : ℕ). IsOn k place.before) same (last_on place.before key is)))
        (segment_owner nodes place.list None place.before (Some node) key parts.0 (last_on place.before key is)) in
        let after_named : (key : ℕ) → first_or place.after None ≡ Some key → owner_at bare key ≡ Some place.list =
        λ (key : ℕ) is. bare_owner key
        (λ same. off-on node place.after distinct.off_after (subst (λ (k : ℕ). IsOn k place.after) same (first_is_on place.after key is)))
        (segment_owner nodes place.list (Some node) place.after None key parts.1.1 (first_is_on place.after key is)) in
        let once = get-first_set heads place.list (last_or None place.before) (first_or place.after None) h.0 h.1 in
        let twice = get-last_set (first_set heads place.list (last_or None place.before) (first_or place.after None)) place.list (first_or place.after None)
        (last_or None place.before) _ once in
        record {
          previous = link_there bare heads place.list h.0 (last_or None place.before) h.1 before_named;
          next = link_there (next_set bare (last_or None place.before) (first_or place.after None))
              (first_set heads place.list (last_or None place.before) (first_or place.after None)) place.list _ (first_or place.after None) once
              (λ key is. owner-next_set bare (last_or None place.before) (first_or place.after None) key ∙ after_named key is);
          head = some_is _ _ twice;
          filled = λ k found.
              let lengths = ap (λ (k : Head). k.len) (same_Some _ _ (sym found ∙ twice)) in
              omega (arith, was.len, length-append place.before ((node, place.value) ∷ place.after));
        }

    module _ (x : Node T) (found : get nodes node ≡ Some x) where
      same_record : (place : Place T) → IsPlaceOf nodes heads node place → record_at nodes heads place ≡ x
      same_record place at = same_Some _ _ (sym (place-names nodes heads node place sound at) ∙ found)

      pub can_unlink : CanUnlink bare heads x
      can_unlink =
          let place = place_of nodes heads node x sound found in
          subst (CanUnlink bare heads) (same_record place.0 place.1) (can_unlink_at place.0 place.1)

      rebuilds_at : (place : Place T) (at : IsPlaceOf nodes heads node place)
          → (h : Head) × Rebuilds nodes heads (nodes_after bare x) (heads_after heads x) place.list h (place.before ++ place.after)
      rebuilds_at place at =
          let h = head_of nodes heads place.list _ at in
          subst (λ (y : Node T). (k : Head) × Rebuilds nodes heads (nodes_after bare y) (heads_after heads y) place.list k (place.before ++ place.after))
          (same_record place at)
          (_, unlinked-rebuilds nodes heads place.list h.0 node place.value bare place.before place.after sound h.1 h.2 gone)

      pub unlink-sound : IsSound (nodes_after bare x) (heads_after heads x)
      unlink-sound =
          let place = place_of nodes heads node x sound found in
          let made = rebuilds_at place.0 place.1 in
          rebuilt-sound nodes heads _ _ place.0.list made.0 _ sound made.1

      pub unlink-value : (place : Place T) → IsPlaceOf nodes heads node place → x.value ≡ place.value
      unlink-value place at = sym (ap (λ (y : Node T). y.value) (same_record place at))

      pub unlink-shows : (place : Place T) → IsPlaceOf nodes heads node place
          → Shows nodes heads (nodes_after bare x) (heads_after heads x) place.list (place.before ++ place.after)
      unlink-shows place at = let made = rebuilds_at place at in rebuilt-shows nodes heads _ _ place.list made.0 _ sound made.1

  module _ (nodes : Slab (Node T)) (heads : Slab Head) (list : ℕ) (h : Head) (sound : IsSound nodes heads) (found : get heads list ≡ Some h) where
    -- a list has no more nodes than there are
    pub len-le : h.len ≤ slab_len nodes
    len-le =
        let was = sound.linked list h found in
        omega (arith, was.len, length-segment nodes list None (entries_of nodes h) was.linked)

    module _ (full : Slab (Node T)) (node : ℕ) (value : T) (vacant : get nodes node ≡ None)
        (added : Updates nodes full node (Some (record { list = list; previous = h.last; next = None; value = value }))) where
      pub push_there : IsThere full heads list h.last
      push_there =
          let was = sound.linked list h found in
          link_there full heads list h h.last found (λ key is.
          let owned = segment_owner nodes list None (entries_of nodes h) None key was.linked (last_on (entries_of nodes h) key (sym was.last ∙ is)) in
          let differs : key ≢ node = λ same. let none = ap (owner_at nodes) same ∙ ap (option_map (λ (x : Node T). x.list)) vacant in absurd (cc) in
          ap (option_map (λ (x : Node T). x.list)) (added.others key differs) ∙ owned)

      abbrev pub heads_pushed : Slab Head
      heads_pushed = changed (first_set heads list h.last (Some node)) list (λ k. record k { last = Some node; len = k.len + 1 })

      pub push-head : (k : Head) → get (first_set heads list h.last (Some node)) list ≡ Some k → k.len ≡ h.len
      push-head k is = ap (λ (y : Head). y.len) (same_Some _ _ (sym is ∙ get-first_set heads list h.last (Some node) h found))

      pub push-head_there : ContainsKey (first_set heads list h.last (Some node)) list
      push-head_there = some_is _ _ (get-first_set heads list h.last (Some node) h found)

      pub push-sound : IsSound (next_set full h.last (Some node)) heads_pushed
      push-sound = rebuilt-sound nodes heads _ _ list _ _ sound
          (pushed-rebuilds nodes heads list h node value full (entries_of nodes h) sound found refl vacant added)

      pub push-shows : (entries : List (ℕ × T)) → shown nodes heads list ≡ Some entries
          → Shows nodes heads (next_set full h.last (Some node)) heads_pushed list (entries ++ (node, value) ∷ [])
      push-shows entries at =
          let same : entries_of nodes h ≡ entries = same_Some _ _ (sym (ap (option_map (entries_of nodes)) found) ∙ at) in
          rebuilt-shows nodes heads _ _ list _ _ sound (pushed-rebuilds nodes heads list h node value full entries sound found same vacant added)
