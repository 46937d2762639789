-- The index of watchers after each change.
use Rattle.std.proofs.Common.{◌≡◌, ℕ, ◌<◌, ◌+◌, arith, List, [], ◌∷◌, ◌++◌, length, Option, Some}
use Rattle.std.proofs.Common.{None, IsSome, slice_index_or, slice_set, refl, sym, ap, subst, ◌∙◌, inl, inr, length-append}
use Rattle.std.proofs.lemmas.Bool.{cases_Bool, cases_eq, Decides.nat_tests}
use Rattle.std.proofs.lemmas.List.{get_or-set_same, get_or-set_other, get_or_append_left, length-set}
use Rattle.std.proofs.lemmas.Option.{same_Some}
use Rattle.std.proofs.Math.Seq.{get_or-append_seam}
use Rattle.stm_lists.specs.Lists.{Lists, Place, entries_at, HasList, HasNode, StandsAt, Updates, first_node}
use Rattle.stm_watch.specs.declared.watched.Watched.TheVariants.{Key}
use Rattle.stm_watch.specs.declared.watched.Watcher.{Watcher}
use Rattle.stm_watch.specs.Calls.{IsNextReady}
use Rattle.stm_watch.specs.Kept.{Holds, AreListed, AreCovered, list_among}
use Rattle.stm_watch.proofs.At.{within, read_at, slot_of_more, set_twice}
use Rattle.stm_watch.proofs.Linked.{place_on, front_on, no_front, more_new, more_kept, more_from, more_there, less_kept, less_from, less_there}

pub some_is : {A : Type 0} (o : Option A) → IsSome o → (x : A) × (o ≡ Some x)
some_is o some = grind (arith, nat_tests)

-- ---- the lists of watchers

-- one watcher more
listed_more : (old new : Lists ℕ) (lists_of : Watcher → Option ℕ) (nodes : List (Option ℕ)) (ws : List (Option Watcher)) (list node : ℕ) (w : Watcher)
    → AreListed old lists_of nodes ws → lists_of w ≡ Some list
    → Updates old new list (Some (entries_at old list ++ (node, length nodes) ∷ []))
    → AreListed new lists_of (nodes ++ Some node ∷ []) (ws ++ Some w ∷ [])
listed_more old new lists_of nodes ws list node w listed is updates =
    record {
      long = length-append nodes (Some node ∷ []) ∙ ap (λ (n : ℕ). n + 1) listed.long ∙ sym (length-append ws (Some w ∷ []));
      there = λ v l at. more_there old new list node (length nodes) updates l (listed.there v l at);
      stands = λ i v at. elim (slot_of_more ws w v i at) [
        | inl before ↦
            let had = listed.stands i v before in
            let below = within nodes i (subst IsSome (sym had.3) refl) in (
              had.0,
              had.1,
              had.2,
              get_or_append_left nodes (Some node ∷ []) None i below
                  ∙ had.3,
              more_kept old new list node (length nodes) updates had.0 had.1 i had.4,
            )
        | inr here ↦
            let last : i ≡ length nodes = here.0 ∙ sym listed.long in (
              list,
              node,
              ap lists_of (sym here.1)
                  ∙ is,
              ap (λ (k : ℕ). slice_index_or (nodes ++ Some node ∷ []) k None) last
                  ∙ get_or-append_seam nodes (Some node) [] None,
              subst (λ (k : ℕ). Holds (entries_at new list) node k) (sym last) (more_new old new list node (length nodes) updates),
            )
      ];
      only = λ l n i h. elim (more_from old new list node (length nodes) updates l n i h) [
        | inl before ↦
            let had = listed.only l n i before in (
              get_or_append_left nodes (Some node ∷ []) None i (within nodes i (subst IsSome (sym had.0) refl))
                  ∙ had.0,
              had.1,
              get_or_append_left ws (Some w ∷ []) None i (within ws i (subst IsSome (sym had.2) refl))
                  ∙ had.2,
              had.3,
            )
        | inr here ↦ (
          ap (λ (k : ℕ). slice_index_or (nodes ++ Some node ∷ []) k None) here.2
              ∙ get_or-append_seam nodes (Some node) [] None
              ∙ ap Some (sym here.1),
          w,
          ap (λ (k : ℕ). slice_index_or (ws ++ Some w ∷ []) k None) (here.2 ∙ listed.long)
              ∙ get_or-append_seam ws (Some w) [] None,
          is
              ∙ ap Some (sym here.0),
        )
      ];
    }

-- one watcher less
listed_less : (old new : Lists ℕ) (lists_of : Watcher → Option ℕ) (nodes : List (Option ℕ)) (ws : List (Option Watcher)) (i node list : ℕ)
    → AreListed old lists_of nodes ws → slice_index_or nodes i None ≡ Some node → Holds (entries_at old list) node i
    → ((place : Place ℕ) → StandsAt old node place → Updates old new place.list (Some (place.before ++ place.after)))
    → (HasNode new node → ⊥) → i < length ws → AreListed new lists_of (slice_set nodes i None) (slice_set ws i None)
listed_less old new lists_of nodes ws i node list listed at holds unlinked gone below =
    let on = place_on old list node i holds in
    let updates = unlinked on.place on.stands in
    record {
      long = length-set nodes i None ∙ listed.long ∙ sym (length-set ws i None);
      there = λ v l is. less_there old new node on.place on.stands updates gone l (listed.there v l is);
      stands = λ j v is. elim (cases_eq j i) [
        | inl same ↦
            let none : slice_index_or (slice_set ws i None) i None ≡ None = get_or-set_same ws i None None below in
            let some : slice_index_or (slice_set ws i None) i None ≡ Some v = subst (λ (n : ℕ). slice_index_or (slice_set ws i None) n None ≡ Some v) same is in
            absurd (cc)
        | inr differs ↦
            let had = listed.stands j v (sym (get_or-set_other ws i j None None differs) ∙ is) in (
              had.0,
              had.1,
              had.2,
              get_or-set_other nodes i j None None differs
                  ∙ had.3,
              less_kept old new node on.place on.stands updates gone had.0 had.1 j (λ e. differs (e ∙ on.number)) had.4,
            )
      ];
      only = λ l n j h.
          let had = less_from old new node on.place on.stands updates gone l n j h in
          let was = listed.only l n j had.0 in
          elim (cases_eq j i) [
            | inl same ↦
                absurd (had.1 (same_Some n node (sym was.0 ∙ ap (λ (k : ℕ). slice_index_or nodes k None) same ∙ at)))
            | inr differs ↦ (
              get_or-set_other nodes i j None None differs
                  ∙ was.0,
              was.1,
              get_or-set_other ws i j None None differs
                  ∙ was.2,
              was.3,
            )
          ];
    }

-- a watcher at a place where none is
listed_again : (old new : Lists ℕ) (lists_of : Watcher → Option ℕ) (nodes : List (Option ℕ)) (ws : List (Option Watcher)) (list node i : ℕ) (w : Watcher)
    → AreListed old lists_of nodes ws → i < length nodes → slice_index_or nodes i None ≡ None → lists_of w ≡ Some list
    → Updates old new list (Some (entries_at old list ++ (node, i) ∷ []))
    → AreListed new lists_of (slice_set nodes i (Some node)) (slice_set ws i (Some w))
listed_again old new lists_of nodes ws list node i w listed below none is updates =
    record {
      long = length-set nodes i (Some node) ∙ listed.long ∙ sym (length-set ws i (Some w));
      there = λ v l at. more_there old new list node i updates l (listed.there v l at);
      stands = λ j v at. elim (cases_eq j i) [
        | inl same ↦
            let here : w ≡ v = same_Some w v (sym set_here
            ∙ subst (λ (k : ℕ). slice_index_or (slice_set ws i (Some w)) k None ≡ Some v) same at) in (
              list,
              node,
              ap lists_of (sym here)
                  ∙ is,
              ap (λ (k : ℕ). slice_index_or (slice_set nodes i (Some node)) k None) same
                  ∙ get_or-set_same nodes i (Some node) None below,
              subst (λ (k : ℕ). Holds (entries_at new list) node k) (sym same) (more_new old new list node i updates),
            )
        | inr differs ↦
            let had = listed.stands j v (sym (get_or-set_other ws i j (Some w) None differs) ∙ at) in (
              had.0,
              had.1,
              had.2,
              get_or-set_other nodes i j (Some node) None differs
                  ∙ had.3,
              more_kept old new list node i updates had.0 had.1 j had.4,
            )
      ];
      only = λ l n j h. elim (more_from old new list node i updates l n j h) [
        | inl before ↦
            let was = listed.only l n j before in
            elim (cases_eq j i) [
              | inl same ↦
                  let some : slice_index_or nodes i None ≡ Some n = subst (λ (k : ℕ). slice_index_or nodes k None ≡ Some n) same was.0 in
                  absurd (cc)
              | inr differs ↦ (
                get_or-set_other nodes i j (Some node) None differs
                    ∙ was.0,
                was.1,
                get_or-set_other ws i j (Some w) None differs
                    ∙ was.2,
                was.3,
              )
            ]
        | inr here ↦ (
          ap (λ (k : ℕ). slice_index_or (slice_set nodes i (Some node)) k None) here.2
              ∙ get_or-set_same nodes i (Some node) None below
              ∙ ap Some (sym here.1),
          w,
          ap (λ (k : ℕ). slice_index_or (slice_set ws i (Some w)) k None) here.2
              ∙ set_here,
          is
              ∙ ap Some (sym here.0),
        )
      ];
    }
  where
    set_here : slice_index_or (slice_set ws i (Some w)) i None ≡ Some w
    set_here = get_or-set_same ws i (Some w) None (subst (λ (n : ℕ). i < n) listed.long below)

-- ---- all watchers

module _ (idle ready : ℕ) where
  -- the list of the ready watchers is there
  pub ready_there : (lists : Lists ℕ) (nodes : List (Option ℕ)) (ws : List (Option Watcher)) → AreCovered lists idle ready nodes ws → HasList lists ready
  ready_there lists nodes ws covered = covered.listed.there (record { watched = Key []; seen = 0; first = Some 0 }) ready refl

  pub covered_same : (old new : Lists ℕ) (nodes new_nodes : List (Option ℕ)) (ws : List (Option Watcher)) → new.lists ≡ old.lists → new_nodes ≡ nodes
      → AreCovered old idle ready nodes ws → AreCovered new idle ready new_nodes ws
  covered_same old new nodes new_nodes ws same_lists same_nodes covered = grind (arith, nat_tests)

  -- one watcher more
  pub covered_more : (old new : Lists ℕ) (nodes : List (Option ℕ)) (ws : List (Option Watcher)) (list node : ℕ) (w : Watcher)
      → AreCovered old idle ready nodes ws → list_among idle ready w ≡ Some list
      → Updates old new list (Some (entries_at old list ++ (node, length nodes) ∷ []))
      → AreCovered new idle ready (nodes ++ Some node ∷ []) (ws ++ Some w ∷ [])
  covered_more old new nodes ws list node w covered is updates = record {
    listed = listed_more old new (list_among idle ready) nodes ws list node w covered.listed is updates;
    apart = covered.apart;
  }

  pub covered_node : (lists : Lists ℕ) (nodes : List (Option ℕ)) (ws : List (Option Watcher)) (i node : ℕ) (o : Option ℕ)
      → AreCovered lists idle ready nodes ws → IsSome (slice_index_or ws i None) → o ≡ slice_index_or nodes i o → o ≡ Some node
      → (list : ℕ) × (slice_index_or nodes i None ≡ Some node) × Holds (entries_at lists list) node i
  covered_node lists nodes ws i node o covered some at is = grind (arith, nat_tests, some_is, within, read_at, same_Some)

  -- one watcher less
  pub covered_less : (old new : Lists ℕ) (nodes : List (Option ℕ)) (ws : List (Option Watcher)) (i node list : ℕ)
      → AreCovered old idle ready nodes ws → slice_index_or nodes i None ≡ Some node → Holds (entries_at old list) node i
      → ((place : Place ℕ) → StandsAt old node place → Updates old new place.list (Some (place.before ++ place.after)))
      → (HasNode new node → ⊥) → i < length ws → AreCovered new idle ready (slice_set nodes i None) (slice_set ws i None)
  covered_less old new nodes ws i node list covered at holds unlinked gone below = record {
    listed = listed_less old new (list_among idle ready) nodes ws i node list covered.listed at holds unlinked gone below;
    apart = covered.apart;
  }

  -- a watcher at a place where none is
  pub covered_again : (old new : Lists ℕ) (nodes : List (Option ℕ)) (ws : List (Option Watcher)) (list node i : ℕ) (w : Watcher)
      → AreCovered old idle ready (slice_set nodes i None) (slice_set ws i None) → i < length nodes → list_among idle ready w ≡ Some list
      → Updates old new list (Some (entries_at old list ++ (node, i) ∷ []))
      → AreCovered new idle ready (slice_set nodes i (Some node)) (slice_set ws i (Some w))
  covered_again old new nodes ws list node i w covered below is updates =
      subst (λ ns. AreCovered new idle ready ns (slice_set ws i (Some w))) (set_twice nodes i None (Some node))
      (subst (AreCovered new idle ready (slice_set (slice_set nodes i None) i (Some node))) (set_twice ws i None (Some w))
      (record {
        listed = listed_again old new (list_among idle ready) (slice_set nodes i None) (slice_set ws i None) list node i w covered.listed
            (subst (λ (n : ℕ). i < n) (sym (length-set nodes i None)) below) (get_or-set_same nodes i None None below) is updates;
        apart = covered.apart;
      }))

  -- ---- one that is ready

  module _ (lists : Lists ℕ) (nodes : List (Option ℕ)) (ws : List (Option Watcher)) (covered : AreCovered lists idle ready nodes ws) where
    pub none_next : first_node (entries_at lists ready) ≡ None → IsNextReady ws None
    none_next none id = grind (arith, nat_tests, cases_Bool, same_Some, no_front)

    pub first_node_of : (node : ℕ) → first_node (entries_at lists ready) ≡ Some node → HasNode lists node
    first_node_of node is = grind (arith, nat_tests, front_on, place_on)

    pub first_below : (node i : ℕ) → first_node (entries_at lists ready) ≡ Some node → ((place : Place ℕ) → StandsAt lists node place → i ≡ place.value)
        → i < length nodes
    first_below node i is got =
        let on = front_on lists ready node is in
        let place = place_on lists ready node on.0 on.1 in
        let had = covered.listed.only ready node on.0 on.1 in
        subst (λ (k : ℕ). k < length nodes) (sym (got place.place place.stands ∙ place.number)) (within nodes on.0 (subst IsSome (sym had.0) refl))

    pub first_next : (node i : ℕ) → first_node (entries_at lists ready) ≡ Some node → ((place : Place ℕ) → StandsAt lists node place → i ≡ place.value)
        → IsNextReady ws (Some (i + 1))
    first_next node i is got = grind (arith, nat_tests, front_on, place_on, cases_Bool)
