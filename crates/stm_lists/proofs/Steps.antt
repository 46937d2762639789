-- What a push and an unlinking make of their list.
use Rattle.std.proofs.Common.{◌≡◌, ◌≢◌, ℕ, ◌+◌, ◌-◌, List, [], ◌∷◌, ◌++◌, length, Option, Some, None, IsSome, option_map, refl, sym, ap, subst, ◌∙◌, inl, inr}
use Rattle.std.proofs.Common.{arith, length-append}
use Rattle.std.proofs.lemmas.Bool.{cases_eq, Decides.nat_tests}
use Rattle.std.proofs.lemmas.List.{append-nil}
use Rattle.std.proofs.lemmas.Option.{same_Some}
use Rattle.slab.specs.Slab.{Slab, get, Updates}
use Rattle.stm_lists.specs.declared.links.Node.{Node}
use Rattle.stm_lists.specs.declared.links.Head.{Head}
use Rattle.stm_lists.specs.Lists.{Place, IsOff}
use Rattle.stm_lists.specs.Links.{changed, next_set, previous_set, first_set, last_set}
use Rattle.stm_lists.specs.Chain.{first_or, last_or, IsSegment, IsList, IsOn, owner_at, entries_of, shown, IsSound, IsPlaceOf}
use Rattle.stm_lists.proofs.Segments.{get-changed_same, get-changed_other, off-on, last_or-append, last_or-some, last_is_on, first_is_on, segment-append}
use Rattle.stm_lists.proofs.Segments.{append-segment, segment_owner, apart, parted, segment_off}
use Rattle.stm_lists.proofs.Changes.{Rebuilds, owner-next_set, owner-previous_set, get-next_set, get-previous_set, segment-next_set, segment-previous_set}
use Rattle.stm_lists.proofs.Changes.{segment-relast, segment-refirst}

pub some_is : {X : Type 0} (o : Option X) (x : X) → o ≡ Some x → IsSome o
some_is o x is = rw is refl

-- what a link is after a write where there is no node before it
abbrev pub pick : Option ℕ → Option ℕ → Option ℕ → Option ℕ
pick None to old = to
pick (Some node) to old = old

pub get-first_set : (heads : Slab Head) (list : ℕ) (link to : Option ℕ) (h : Head) → get heads list ≡ Some h
    → get (first_set heads list link to) list ≡ Some (record h { first = pick link to h.first })
get-first_set heads list link to h found = grind (arith, nat_tests, get-changed_same)

pub get-last_set : (heads : Slab Head) (list : ℕ) (link to : Option ℕ) (h : Head) → get heads list ≡ Some h
    → get (last_set heads list link to) list ≡ Some (record h { last = pick link to h.last })
get-last_set heads list link to h found = grind (arith, nat_tests, get-changed_same)

other-first_set : (heads : Slab Head) (list : ℕ) (link to : Option ℕ) (other : ℕ) → other ≢ list → get (first_set heads list link to) other ≡ get heads other
other-first_set heads list link to other differs = grind (arith, nat_tests, get-changed_other)

other-last_set : (heads : Slab Head) (list : ℕ) (link to : Option ℕ) (other : ℕ) → other ≢ list → get (last_set heads list link to) other ≡ get heads other
other-last_set heads list link to other differs = grind (arith, nat_tests, get-changed_other)

module _ {T : Type 0} where
  -- the head's first node, where a node between these two parts leaves
  first_left : (before : List (ℕ × T)) (entry : ℕ × T) (after : List (ℕ × T))
      → pick (last_or None before) (first_or after None) (first_or (before ++ entry ∷ after) None) ≡ first_or (before ++ after) None
  first_left [] entry after = refl
  first_left (e ∷ rest) entry after = let some = last_or-some e.0 rest in rw some.1 refl

  -- likewise its last node
  last_left : (before : List (ℕ × T)) (entry : ℕ × T) (after : List (ℕ × T))
      → pick (first_or after None) (last_or None before) (last_or None (before ++ entry ∷ after)) ≡ last_or None (before ++ after)
  last_left before entry after = grind (arith, nat_tests, append-nil, last_or-append)

  -- the head's first node after a push
  first_pushed : (entries : List (ℕ × T)) (node : ℕ) (value : T)
      → pick (last_or None entries) (Some node) (first_or entries None) ≡ first_or (entries ++ (node, value) ∷ []) None
  first_pushed [] node value = refl
  first_pushed (e ∷ rest) node value = let some = last_or-some e.0 rest in rw some.1 refl

  on-append_right : (node : ℕ) (xs ys : List (ℕ × T)) → IsOn node ys → IsOn node (xs ++ ys)
  on-append_right node [] ys on = on
  on-append_right node (entry ∷ rest) ys on = inr (on-append_right node rest ys on)

  on-append_left : (node : ℕ) (xs ys : List (ℕ × T)) → IsOn node xs → IsOn node (xs ++ ys)
  on-append_left node [] ys on = absurd on
  on-append_left node (entry ∷ rest) ys on =
      elim on [ inl here ↦ inl here | inr there ↦ inr (on-append_left node rest ys there) ]

  -- a node other than the one that leaves stays
  on_left : (node gone : ℕ) (value : T) (before after : List (ℕ × T)) → node ≢ gone → IsOn node (before ++ (gone, value) ∷ after) → IsOn node (before ++ after)
  on_left node gone value [] after differs on = elim on [ inl here ↦ absurd (differs (sym here)) | inr there ↦ there ]
  on_left node gone value (entry ∷ rest) after differs on =
      elim on [ inl here ↦ inl here | inr there ↦ inr (on_left node gone value rest after differs there) ]

  -- a vacant slot stands on no list
  pub vacant_off : (s : Slab (Node T)) (list : ℕ) (before : Option ℕ) (xs : List (ℕ × T)) (after : Option ℕ) (node : ℕ) → get s node ≡ None
      → IsSegment s list before xs after → IsOff node xs
  unfolding IsSegment
  vacant_off s list before [] after node vacant p = tt
  vacant_off s list before (entry ∷ rest) after node vacant p = grind (arith, nat_tests, vacant_off s list (Some entry.0) rest after node vacant p.1)

  pub owner_differs : (s : Slab (Node T)) (node key list other : ℕ) → owner_at s key ≡ Some list → owner_at s node ≡ Some other → other ≢ list → node ≢ key
  owner_differs s node key list other owns owned differs same = grind (arith, nat_tests, same_Some)

  module _ (nodes : Slab (Node T)) (heads : Slab Head) (list : ℕ) (h : Head) (node : ℕ) (value : T) where
    module _ (bare : Slab (Node T)) (before after : List (ℕ × T)) where
      abbrev pub unlinked_nodes : Slab (Node T)
      unlinked_nodes = previous_set (next_set bare (last_or None before) (first_or after None)) (first_or after None) (last_or None before)

      abbrev pub unlinked_heads : Slab Head
      unlinked_heads =
          changed (last_set (first_set heads list (last_or None before) (first_or after None)) list (first_or after None) (last_or None before)) list
          (λ k. record k { len = k.len - 1 })

      abbrev pub unlinked_head : Head
      unlinked_head = record { first = first_or (before ++ after) None; last = last_or None (before ++ after); len = h.len - 1 }

      unlinked_segment : Updates nodes bare node None → IsSegment nodes list None (before ++ (node, value) ∷ after) None
          → IsSegment unlinked_nodes list None (before ++ after) None
      unfolding IsSegment
      unlinked_segment gone linked =
          let distinct = parted before after node value (apart nodes list None (before ++ (node, value) ∷ after) linked) in
          let parts = segment-append nodes list None before ((node, value) ∷ after) None linked in
          let front = segment_off nodes bare list None before (Some node) node (λ m differs. gone.others m differs) distinct.off_before parts.0 in
          let back = segment_off nodes bare list (Some node) after None node (λ m differs. gone.others m differs) distinct.off_after parts.1.1 in
          let last_on : (key : ℕ) → last_or None before ≡ Some key → IsOn key before = λ (key : ℕ) is. last_on_of before key is in
          let middle_front = segment-relast bare list before (Some node) (first_or after None) distinct.before_apart front in
          let middle_back = segment-next_set bare (last_or None before) (first_or after None) list (Some node) after None
          (λ key is. distinct.before_off_after key (last_on key is)) back in
          let end_front = segment-previous_set (next_set bare (last_or None before) (first_or after None)) (first_or after None)
          (last_or None before) list None before (first_or after None) (λ key is. distinct.after_off_before key (first_is_on after key is)) middle_front in
          let end_back = segment-refirst (next_set bare (last_or None before) (first_or after None)) list (Some node)
          (last_or None before) after distinct.after_apart middle_back in
          append-segment unlinked_nodes list None before after None end_front end_back
        where
          last_on_of : (xs : List (ℕ × T)) (key : ℕ) → last_or None xs ≡ Some key → IsOn key xs
          last_on_of xs key is = elim (last_is_on None xs key is) [ inl none ↦ absurd (cc) | inr on ↦ on ]

      unlinked_owner : (m : ℕ) → owner_at unlinked_nodes m ≡ owner_at bare m
      unlinked_owner m = grind (arith, nat_tests, owner-previous_set, owner-next_set)

      pub unlinked-rebuilds : IsSound nodes heads → get heads list ≡ Some h → entries_of nodes h ≡ before ++ (node, value) ∷ after
          → Updates nodes bare node None → Rebuilds nodes heads unlinked_nodes unlinked_heads list unlinked_head (before ++ after)
      unfolding IsSegment
      unlinked-rebuilds sound found walked gone =
          let was : IsList nodes list h (before ++ (node, value) ∷ after) = subst (IsList nodes list h) walked (sound.linked list h found) in
          let parts = segment-append nodes list None before ((node, value) ∷ after) None was.linked in
          let owns : owner_at nodes node ≡ Some list = ap (option_map (λ (x : Node T). x.list)) parts.1.0 in
          let once = get-first_set heads list (last_or None before) (first_or after None) h found in
          let twice = get-last_set (first_set heads list (last_or None before) (first_or after None)) list (first_or after None) (last_or None before) _ once in
          let lengths : h.len - 1 ≡ length (before ++ after) =
          omega (arith, was.len, length-append before ((node, value) ∷ after), length-append before after) in
          let last_named : (key : ℕ) → last_or None before ≡ Some key → owner_at nodes key ≡ Some list =
          λ (key : ℕ) is. segment_owner nodes list None before (Some node) key parts.0 (last_on_of before key is) in
          let first_named : (key : ℕ) → first_or after None ≡ Some key → owner_at nodes key ≡ Some list =
          λ (key : ℕ) is. segment_owner nodes list (Some node) after None key parts.1.1 (first_is_on after key is) in
          record {
            head = get-changed_same (last_set (first_set heads list (last_or None before) (first_or after None)) list (first_or after None)
                (last_or None before)) list _ ∙ ap (option_map (λ (k : Head). record k { len = k.len - 1 })) twice
                ∙ ap Some (same_head (sym was.first) (sym was.last));
            other_heads = λ other differs. get-changed_other
                (last_set (first_set heads list (last_or None before) (first_or after None)) list (first_or after None) (last_or None before)) list other _
                differs ∙ other-last_set (first_set heads list (last_or None before) (first_or after None)) list (first_or after None)
                (last_or None before) other differs ∙ other-first_set heads list (last_or None before) (first_or after None) other differs;
            made = record { first = refl; last = refl; len = lengths; linked = unlinked_segment gone was.linked };
            kept = λ m other differs owned.
                get-previous_set (next_set bare (last_or None before) (first_or after None)) (first_or after None) (last_or None before) m
                (λ key is. owner_differs nodes m key list other (first_named key is) owned differs)
                ∙ get-next_set bare (last_or None before) (first_or after None) m
                (λ key is. owner_differs nodes m key list other (last_named key is) owned differs)
                ∙ gone.others m (owner_differs nodes m node list other owns owned differs);
            back = λ m other differs owned. owner_before m other (sym (unlinked_owner m) ∙ owned);
            here = λ m owned.
                let bare_owned = sym (unlinked_owner m) ∙ owned in
                let place = sound.owned m list (owner_before m list bare_owned) in
                let same : place.0 ≡ h = same_Some place.0 h (sym place.1 ∙ found) in
                let on : IsOn m (before ++ (node, value) ∷ after) = subst (IsOn m) (ap (entries_of nodes) same ∙ walked) place.2 in
                on_left m node value before after (not_gone m list bare_owned) on;
          }
        where
          last_on_of : (xs : List (ℕ × T)) (key : ℕ) → last_or None xs ≡ Some key → IsOn key xs
          last_on_of xs key is = elim (last_is_on None xs key is) [ inl none ↦ absurd (cc) | inr on ↦ on ]

          not_gone : (m other : ℕ) → owner_at bare m ≡ Some other → m ≢ node
          not_gone m other owned same = let none = ap (owner_at bare) same ∙ ap (option_map (λ (x : Node T). x.list)) gone.changed in absurd (cc)

          owner_before : (m other : ℕ) → owner_at bare m ≡ Some other → owner_at nodes m ≡ Some other
          owner_before m other owned = ap (option_map (λ (x : Node T). x.list)) (sym (gone.others m (not_gone m other owned))) ∙ owned

          same_head : first_or (before ++ (node, value) ∷ after) None ≡ h.first → last_or None (before ++ (node, value) ∷ after) ≡ h.last
              → record {
                first = pick (last_or None before) (first_or after None) h.first;
                last = pick (first_or after None) (last_or None before) h.last;
                len =
                    h.len - 1;
              } ≡ unlinked_head
          same_head first last = rw (← first, ← last, first_left before (node, value) after, last_left before (node, value) after) refl

    module _ (full : Slab (Node T)) (entries : List (ℕ × T)) where
      abbrev pub pushed_nodes : Slab (Node T)
      pushed_nodes = next_set full h.last (Some node)

      abbrev pub pushed_heads : Slab Head
      pushed_heads = changed (first_set heads list h.last (Some node)) list (λ k. record k { last = Some node; len = k.len + 1 })

      abbrev pub pushed_head : Head
      pushed_head = record { first = first_or (entries ++ (node, value) ∷ []) None; last = Some node; len = h.len + 1 }

      pub pushed-rebuilds : IsSound nodes heads → get heads list ≡ Some h → entries_of nodes h ≡ entries → get nodes node ≡ None
          → Updates nodes full node (Some (record { list = list; previous = h.last; next = None; value = value }))
          → Rebuilds nodes heads pushed_nodes pushed_heads list pushed_head (entries ++ (node, value) ∷ [])
      unfolding IsSegment
      pushed-rebuilds sound found walked vacant added =
          let was : IsList nodes list h entries = subst (IsList nodes list h) walked (sound.linked list h found) in
          let off = vacant_off nodes list None entries None node vacant was.linked in
          let distinct = apart nodes list None entries was.linked in
          let kept_full : IsSegment full list None entries None =
          segment_off nodes full list None entries None node (λ m differs. added.others m differs) off was.linked in
          let front : IsSegment pushed_nodes list None entries (Some node) =
          rw was.last (segment-relast full list entries None (Some node) distinct kept_full) in
          let named : (key : ℕ) → h.last ≡ Some key → IsOn key entries = λ (key : ℕ) is. last_on_of entries key (sym was.last ∙ is) in
          let others_named : (key : ℕ) → h.last ≡ Some key → node ≢ key =
          λ (key : ℕ) is same. off-on node entries off (subst (λ (k : ℕ). IsOn k entries) (sym same) (named key is)) in
          let here : get pushed_nodes node ≡ Some (record { list = list; previous = last_or None entries; next = None; value = value }) =
          get-next_set full h.last (Some node) node others_named ∙ added.changed
          ∙ ap (λ (l : Option ℕ). Some (record { list = list; previous = l; next = None; value = value })) was.last in
          record {
            head = get-changed_same (first_set heads list h.last (Some node)) list _
                ∙ ap (option_map (λ (k : Head). record k { last = Some node; len = k.len + 1 })) (get-first_set heads list h.last (Some node) h found)
                ∙ ap Some (same_head was.first was.last);
            other_heads = λ other differs. get-changed_other (first_set heads list h.last (Some node)) list other _ differs
                ∙ other-first_set heads list h.last (Some node) other differs;
            made = record {
              first = refl;
              last = sym (last_or-append None entries ((node, value) ∷ []));
              len = omega (arith, was.len, length-append entries ((node, value) ∷ []));
              linked = append-segment pushed_nodes list None entries ((node, value) ∷ []) None front (here, tt);
            };
            kept = λ m other differs owned.
                get-next_set full h.last (Some node) m
                (λ key is. owner_differs nodes m key list other (segment_owner nodes list None entries None key was.linked (named key is)) owned differs)
                ∙ added.others m (not_vacant m other owned);
            back = λ m other differs owned.
                let full_owned = sym (owner-next_set full h.last (Some node) m) ∙ owned in
                elim (cases_eq m node) [
                  | inl same ↦ absurd (differs (sym (same_Some list other (sym full_owner ∙ ap (owner_at full) (sym same) ∙ full_owned))))
                  | inr other_node ↦ ap (option_map (λ (x : Node T). x.list)) (sym (added.others m other_node)) ∙ full_owned
                ];
            here = λ m owned.
                let full_owned = sym (owner-next_set full h.last (Some node) m) ∙ owned in
                elim (cases_eq m node) [
                  | inl same ↦ on-append_right m entries ((node, value) ∷ []) (inl (sym same))
                  | inr other_node ↦
                      let place = sound.owned m list (ap (option_map (λ (x : Node T). x.list)) (sym (added.others m other_node)) ∙ full_owned) in
                      let same : place.0 ≡ h = same_Some place.0 h (sym place.1 ∙ found) in
                      on-append_left m entries ((node, value) ∷ []) (subst (IsOn m) (ap (entries_of nodes) same ∙ walked) place.2)
                ];
          }
        where
          last_on_of : (xs : List (ℕ × T)) (key : ℕ) → last_or None xs ≡ Some key → IsOn key xs
          last_on_of xs key is = elim (last_is_on None xs key is) [ inl none ↦ absurd (cc) | inr on ↦ on ]

          full_owner : owner_at full node ≡ Some list
          full_owner = ap (option_map (λ (x : Node T). x.list)) added.changed

          not_vacant : (m other : ℕ) → owner_at nodes m ≡ Some other → m ≢ node
          not_vacant m other owned same = let none = ap (owner_at nodes) same ∙ ap (option_map (λ (x : Node T). x.list)) vacant in absurd (cc)

          same_head : h.first ≡ first_or entries None → h.last ≡ last_or None entries
              → record { first = pick h.last (Some node) h.first; last = Some node; len = h.len + 1 } ≡ pushed_head
          same_head first last = rw (first, last, first_pushed entries node value) refl

  -- the entry of a node that stands among these
  on-split : (node : ℕ) (xs : List (ℕ × T)) → IsOn node xs
      → (before : List (ℕ × T)) × (value : T) × (after : List (ℕ × T)) × (xs ≡ before ++ (node, value) ∷ after)
  on-split node [] on = absurd on
  on-split node (entry ∷ rest) on =
      elim on [
        | inl here ↦ ([], entry.1, rest, ap (λ (n : ℕ). (n, entry.1) ∷ rest) here)
        | inr there ↦
            let more = on-split node rest there in
            (entry ∷ more.0, more.1, more.2, ap (λ ys. entry ∷ ys) more.3)
      ]

  module _ (nodes : Slab (Node T)) (heads : Slab Head) where
    -- each node that is there has a place
    pub place_of : (node : ℕ) (x : Node T) → IsSound nodes heads → get nodes node ≡ Some x → (place : Place T) × IsPlaceOf nodes heads node place
    place_of node x sound found =
        let owned = sound.owned node x.list (ap (option_map (λ (y : Node T). y.list)) found) in
        let split = on-split node (entries_of nodes owned.0) owned.2 in
        (record { list = x.list; before = split.0; value = split.1; after = split.2 }, ap (option_map (entries_of nodes)) owned.1 ∙ ap Some split.3)

    -- the head of a list that is shown
    pub head_of : (list : ℕ) (entries : List (ℕ × T)) → shown nodes heads list ≡ Some entries
        → (h : Head) × (get heads list ≡ Some h) × (entries_of nodes h ≡ entries)
    head_of list entries shows = grind (arith, nat_tests, same_Some)

    -- what the node at a place names
    abbrev pub record_at : Place T → Node T
    record_at place = record { list = place.list; previous = last_or None place.before; next = first_or place.after None; value = place.value }

    -- a node at a place names its neighbours there
    pub place-names : (node : ℕ) (place : Place T) → IsSound nodes heads → IsPlaceOf nodes heads node place → get nodes node ≡ Some (record_at place)
    unfolding IsSegment
    place-names node place sound at =
        let h = head_of place.list _ at in
        let was : IsList nodes place.list h.0 (place.before ++ (node, place.value) ∷ place.after) =
        subst (IsList nodes place.list h.0) h.2 (sound.linked place.list h.0 h.1) in
        (segment-append nodes place.list None place.before ((node, place.value) ∷ place.after) None was.linked).1.0
