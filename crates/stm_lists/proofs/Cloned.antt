-- Clones of the nodes make up clones of the lists.
use Rattle.std.proofs.Common.{◌≡◌, ℕ, zero, suc, List, [], ◌∷◌, map, get_or, Option, Some, None, option_map, refl, sym, ap, subst, ◌∙◌, inl, inr, arith}
use Rattle.std.specs.List.{AllZip}
use Rattle.std.proofs.lemmas.List.Elements.{same_from_all_zip}
use Rattle.std.proofs.lemmas.Slice.Zip.{AllZip-long}
use Rattle.std.proofs.lemmas.Bool.Decides.{nat_tests}
use Rattle.slab.specs.Slab.{Slab, get, IsSlotClone}
use Rattle.stm_lists.specs.Lists.{Lists}
use Rattle.stm_lists.specs.Clones.{AreClones, IsListClone, AreListClones}
use Rattle.stm_lists.specs.NodeClone.{IsNodeClone}
use Rattle.stm_lists.specs.declared.links.Node.{Node}
use Rattle.stm_lists.specs.declared.links.Head.{Head}
use Rattle.stm_lists.specs.Chain.{first_or, last_or, IsSegment, IsList, IsOn, owner_at, entries_of, IsSound, view_of}
use Rattle.stm_lists.proofs.Segments.{walk-list}

-- what stands under one index
pub slot_cloned : {X : Type 0} (C : X → X → Type 0) (xs ys : List (Option X)) (at : ℕ) → AllZip (IsSlotClone C) xs ys
    → IsSlotClone C (get_or xs at None) (get_or ys at None)
slot_cloned C [] [] at p = refl
slot_cloned C [] (y ∷ ys) at p = absurd p
slot_cloned C (x ∷ xs) [] at p = absurd p
slot_cloned C (x ∷ xs) (y ∷ ys) zero p = p.0
slot_cloned C (x ∷ xs) (y ∷ ys) (suc at) p = slot_cloned C xs ys at p.1

-- where clones are the same, so is what stands under an index
pub slot_same : {X : Type 0} (C : X → X → Type 0) → ((x y : X) → C x y → y ≡ x) → (o copy : Option X) → IsSlotClone C o copy → copy ≡ o
slot_same C same o copy p = grind (arith, nat_tests)

module _ {T : Type 0} (R : T → T → Type 0) where
  -- where clones are the same, so are the lists
  same_entries : ((x y : T) → R x y → y ≡ x) → (xs ys : List (ℕ × T)) → AreClones R xs ys → ys ≡ xs
  same_entries same [] [] p = refl
  same_entries same [] (y ∷ ys) p = absurd p
  same_entries same (x ∷ xs) [] p = absurd p
  same_entries same (x ∷ xs) (y ∷ ys) p = grind (arith, nat_tests, same_entries same xs ys p.1)

  pub same_lists : ((x y : T) → R x y → y ≡ x) → (s copy : Lists T) → AreListClones R s copy → copy.lists ≡ s.lists
  same_lists same s copy p = grind (arith, nat_tests, same_from_all_zip, same_entries)

  -- one list of them
  pub list_clone_at : (lists copies : List (Option (List (ℕ × T)))) (at : ℕ) → AllZip (IsListClone R) lists copies
      → IsListClone R (get_or lists at None) (get_or copies at None)
  list_clone_at [] [] at p = refl
  list_clone_at [] (y ∷ ys) at p = absurd p
  list_clone_at (x ∷ xs) [] at p = absurd p
  list_clone_at (x ∷ xs) (y ∷ ys) zero p = p.0
  list_clone_at (x ∷ xs) (y ∷ ys) (suc at) p = list_clone_at xs ys at p.1

  -- ---- clones stand where their originals stand

  first_cloned : (xs ys : List (ℕ × T)) (after : Option ℕ) → AreClones R xs ys → first_or ys after ≡ first_or xs after
  first_cloned xs ys after p = grind (arith, nat_tests)

  last_cloned : (before : Option ℕ) (xs ys : List (ℕ × T)) → AreClones R xs ys → last_or before ys ≡ last_or before xs
  last_cloned before [] [] p = refl
  last_cloned before [] (y ∷ ys) p = absurd p
  last_cloned before (x ∷ xs) [] p = absurd p
  last_cloned before (x ∷ xs) (y ∷ ys) p = ap (λ (node : ℕ). last_or (Some node) ys) p.0.0 ∙ last_cloned (Some x.0) xs ys p.1

  on_cloned : (node : ℕ) (xs ys : List (ℕ × T)) → AreClones R xs ys → IsOn node xs → IsOn node ys
  on_cloned node [] ys p on = absurd on
  on_cloned node (x ∷ xs) [] p on = absurd p
  on_cloned node (x ∷ xs) (y ∷ ys) p on =
      elim on [
        | inl here ↦ inl (p.0.0 ∙ here)
        | inr there ↦ inr (on_cloned node xs ys p.1 there)
      ]

  -- a node by its parts
  abbrev node_of : ℕ → Option ℕ → Option ℕ → T → Node T
  node_of list previous next value = record { list = list; previous = previous; next = next; value = value }

  same_node : (l m : ℕ) (a b c d : Option ℕ) (value : T) → l ≡ m → a ≡ b → c ≡ d → node_of l a c value ≡ node_of m b d value
  same_node l m a b c d value p q r = rw (p, q, r) refl

  -- ---- the lists of the clones

  module _ (nodes copies : Slab (Node T)) (cloned : (node : ℕ) → IsSlotClone (IsNodeClone R) (get nodes node) (get copies node)) where
    clone_at : (node : ℕ) (x : Node T) → get nodes node ≡ Some x → (y : Node T) × (get copies node ≡ Some y) × IsNodeClone R x y
    clone_at node x found =
        by_slot (get copies node) (subst (λ (o : Option (Node T)). IsSlotClone (IsNodeClone R) o (get copies node)) found (cloned node))
      where
        by_slot : (o : Option (Node T)) → IsSlotClone (IsNodeClone R) (Some x) o → (y : Node T) × (o ≡ Some y) × IsNodeClone R x y
        by_slot None p = absurd p
        by_slot (Some y) p = (y, refl, p)

    owner_cloned : (node : ℕ) → owner_at nodes node ≡ owner_at copies node
    owner_cloned node = grind (arith, nat_tests)

    -- the clones of a part of a list
    pub record IsSegmentCloned (list : ℕ) (before : Option ℕ) (xs : List (ℕ × T)) (after : Option ℕ) : Type 0 where
      pub entries : List (ℕ × T)
      pub clones : AreClones R xs entries
      pub linked : IsSegment copies list before entries after

    segment_cloned : (list : ℕ) (before : Option ℕ) (xs : List (ℕ × T)) (after : Option ℕ) → IsSegment nodes list before xs after
        → IsSegmentCloned list before xs after
    unfolding IsSegment
    segment_cloned list before [] after p = record { entries = []; clones = tt; linked = tt }
    segment_cloned list before (entry ∷ rest) after p =
        let more = segment_cloned list (Some entry.0) rest after p.1 in
        let at = clone_at entry.0 (node_of list before (first_or rest after) entry.1) p.0 in
        let next : at.0.next ≡ first_or more.entries after = at.2.next ∙ sym (first_cloned rest more.entries after more.clones) in
        record {
          entries = (entry.0, at.0.value) ∷ more.entries;
          clones = ((refl, at.2.value), more.clones);
          linked = (
            at.1
                ∙ ap Some
                (same_node at.0.list list at.0.previous before at.0.next (first_or more.entries after) at.0.value at.2.list at.2.previous next),
            more.linked,
          );
        }

    list_cloned : (list : ℕ) (h : Head) (xs : List (ℕ × T)) → IsList nodes list h xs
        → (ys : List (ℕ × T)) × AreClones R xs ys × IsList copies list h ys
    list_cloned list h xs p = grind (arith, nat_tests, segment_cloned, first_cloned, last_cloned, AllZip-long)

    entries_cloned : (list : ℕ) (h : Head) → IsList nodes list h (entries_of nodes h)
        → AreClones R (entries_of nodes h) (entries_of copies h) × IsList copies list h (entries_of copies h)
    entries_cloned list h p =
        let made = list_cloned list h (entries_of nodes h) p in
        let walked : entries_of copies h ≡ made.0 = walk-list copies list h made.0 made.2 in
        (subst (AreClones R (entries_of nodes h)) (sym walked) made.1, subst (IsList copies list h) (sym walked) made.2)

    -- the lists of these heads
    shown_cloned : (slots : List (Option Head))
        → ((at : ℕ) (h : Head) → get_or slots at None ≡ Some h → AreClones R (entries_of nodes h) (entries_of copies h))
        → AllZip (IsListClone R) (map (option_map (entries_of nodes)) slots) (map (option_map (entries_of copies)) slots)
    shown_cloned [] each = tt
    shown_cloned (None ∷ slots) each = (refl, shown_cloned slots (λ at. each (suc at)))
    shown_cloned (Some h ∷ slots) each = (each 0 h refl, shown_cloned slots (λ at. each (suc at)))

    module _ (heads new_heads : Slab Head) (same : new_heads.slots ≡ heads.slots) (sound : IsSound nodes heads) where
      same_head : (list : ℕ) → get new_heads list ≡ get heads list
      same_head list = ap (λ (slots : List (Option Head)). get_or slots list None) same

      pub sound_cloned : IsSound copies new_heads
      sound_cloned =
          record {
            linked = λ list h found. (entries_cloned list h (sound.linked list h (sym (same_head list) ∙ found))).1;
            owned = λ node list owns.
                let had = sound.owned node list (owner_cloned node ∙ owns) in
                (had.0, same_head list ∙ had.1, on_cloned node _ _ (entries_cloned list had.0 (sound.linked list had.0 had.1)).0 had.2);
          }

      -- as callers see them
      pub lists_cloned : (spare : ℕ) (now : Lists T) → view_of nodes heads spare ≡ now → AreListClones R now (view_of copies new_heads 0)
      lists_cloned spare now seen =
          let each : (at : ℕ) (h : Head) → get_or heads.slots at None ≡ Some h → AreClones R (entries_of nodes h) (entries_of copies h) =
          λ at h found. (entries_cloned at h (sound.linked at h found)).0 in
          record {
            lists = subst (λ (xs : List (Option (List (ℕ × T)))). AllZip (IsListClone R) xs (map (option_map (entries_of copies)) new_heads.slots))
                (ap (λ (s : Lists T). s.lists) seen)
                (subst (λ (slots : List (Option Head)). AllZip (IsListClone R) (map (option_map (entries_of nodes)) heads.slots)
                (map (option_map (entries_of copies)) slots)) (sym same) (shown_cloned heads.slots each));
            spare = refl;
          }
