-- What copies of the tables, of the lists and of the tournament keep.
use Rattle.std.proofs.Common.{◌≡◌, ℕ, cond, List, [], ◌∷◌, map, Option, Some, IsSome, unwrap_or, String, string_bytes, arith, refl, sym, ap, ◌∙◌, inl, inr}
use Rattle.std.specs.List.{AllZip}
use Rattle.std.specs.Map.{lookup}
use Rattle.std.specs.Str.{bytes_eq}
use Rattle.std.specs.FinMap as finmap
use Rattle.std.proofs.lemmas.Bool.Decides.{nat_tests}
use Rattle.indexmap.specs.IndexMap.{IndexMap, get_by_text}
use Rattle.stm_lists.specs.Lists.{Lists, list_at, entries_at}
use Rattle.stm_lists.specs.Clones.{AreClones, IsListClone, AreListClones}
use Rattle.stm_lists.proofs.Cloned.{list_clone_at}
use Rattle.stm_leases.specs.Copies.{by_bytes}
use Rattle.stm_leases.specs.LeaseLog.{Term}
use Rattle.stm_leases.specs.Leases.{Leases}
use Rattle.stm_leases.specs.declared.lease.Lease.{Lease}
use Rattle.stm_leases.specs.declared.lease.Attachment.{Attachment}
use Rattle.stm_leases.specs.declared.tournament.Tournament.{Tournament}
use Rattle.stm_leases.specs.Due.{IsTimed}
use Rattle.stm_leases.specs.Kept.{Holds, AreInStep, term_in, view_of}

-- ---- the table of attached keys

-- copies of texts have the same bytes
pub same_bytes : {A : Type 0} (es fs : List (String A × Attachment))
    → AllZip (λ e f. (string_bytes f.0 ≡ string_bytes e.0) × (f.1 ≡ e.1)) es fs → map by_bytes fs ≡ map by_bytes es
same_bytes [] [] p = refl
same_bytes [] (f ∷ fs) p = absurd p
same_bytes (e ∷ es) [] p = absurd p
same_bytes (e ∷ es) (f ∷ fs) p = grind (arith, nat_tests, same_bytes es fs p.1)

-- where a key is looked for by its bytes
found_by : {A : Type 0} (es : List (String A × Attachment)) (key : List ℕ)
    → lookup (λ k. bytes_eq key (string_bytes k)) es ≡ lookup (bytes_eq key) (map by_bytes es)
found_by [] key = refl
found_by (e ∷ es) key = ap (cond (bytes_eq key (string_bytes e.0)) (Some e.1)) (found_by es key)

-- the lease that a key is attached to, under the key
abbrev with_lease : List ℕ × Attachment → List ℕ × ℕ
with_lease e = (e.0, e.1.lease)

abbrev attached_text : {A : Type 0} → String A × Attachment → List ℕ × ℕ
attached_text e = (string_bytes e.0, e.1.lease)

shown_by : {A : Type 0} (es : List (String A × Attachment)) → map attached_text es ≡ map with_lease (map by_bytes es)
shown_by [] = refl
shown_by (e ∷ es) = ap (λ (more : List (List ℕ × ℕ)). attached_text e ∷ more) (shown_by es)

-- what contracts see of a live lease, under its id
abbrev live_term : ℕ × Lease → ℕ × Term
live_term e = (e.0, term_in e.1)

-- what contracts see of these entries
abbrev tables : List (ℕ × Term) → List (List ℕ × ℕ) → Leases
tables live attached = record { live = finmap.from_entries live; attached = finmap.from_entries attached; spare = 0 }

module _ {A S R : Type 0} (leases new_leases : IndexMap ℕ Lease S) (attached new_attached : IndexMap (String A) Attachment R)
    (same : new_leases.entries ≡ leases.entries) (bytes : map by_bytes new_attached.entries ≡ map by_bytes attached.entries) where
  pub place_copied : (key : List ℕ) → get_by_text new_attached key ≡ get_by_text attached key
  place_copied key = found_by new_attached.entries key ∙ ap (lookup (bytes_eq key)) bytes ∙ sym (found_by attached.entries key)

  -- contracts see the same, but for the room
  pub view_copied : (spare : ℕ) (now : Leases) → view_of leases attached spare ≡ now → view_of new_leases new_attached 0 ≡ record now { spare = 0 }
  view_copied spare now seen = grind (arith, nat_tests, shown_by)

-- ---- the lists of keys

module _ {A : Type 0} where
  -- texts with the same bytes
  abbrev pub SameText : String A → String A → Type 0
  SameText s t = string_bytes t ≡ string_bytes s

  holds_cloned : (xs ys : List (ℕ × String A)) (node : ℕ) (key : List ℕ) → AreClones SameText xs ys → Holds xs node key → Holds ys node key
  holds_cloned [] ys node key p h = absurd h
  holds_cloned (x ∷ xs) [] node key p h = absurd p
  holds_cloned (x ∷ xs) (y ∷ ys) node key p h =
      elim h [
        | inl here ↦ inl (p.0.0 ∙ here.0, p.0.1 ∙ here.1)
        | inr there ↦ inr (holds_cloned xs ys node key p.1 there)
      ]

  cloned_holds : (xs ys : List (ℕ × String A)) (node : ℕ) (key : List ℕ) → AreClones SameText xs ys → Holds ys node key → Holds xs node key
  cloned_holds xs [] node key p h = absurd h
  cloned_holds [] (y ∷ ys) node key p h = absurd p
  cloned_holds (x ∷ xs) (y ∷ ys) node key p h =
      elim h [
        | inl here ↦ inl (sym p.0.0 ∙ here.0, sym p.0.1 ∙ here.1)
        | inr there ↦ inr (cloned_holds xs ys node key p.1 there)
      ]

  -- the same of lists that may not be there
  listed_cloned : (list copy : Option (List (ℕ × String A))) → IsListClone SameText list copy → IsSome list → IsSome copy
  listed_cloned list copy p some = grind (arith, nat_tests)

  entries_cloned : (list copy : Option (List (ℕ × String A))) → IsListClone SameText list copy → AreClones SameText (unwrap_or list []) (unwrap_or copy [])
  entries_cloned list copy p = grind (arith, nat_tests)

  pub in_step_copied : (list_of new_list_of : ℕ → Option ℕ) (place_of new_place_of : List ℕ → Option Attachment) (keys copies : Lists (String A))
      → ((id : ℕ) → new_list_of id ≡ list_of id) → ((key : List ℕ) → new_place_of key ≡ place_of key) → AreListClones SameText keys copies
      → AreInStep list_of place_of keys → AreInStep new_list_of new_place_of copies
  in_step_copied list_of new_list_of place_of new_place_of keys copies lists places cloned kept =
      let at : (list : ℕ) → IsListClone SameText (list_at keys list) (list_at copies list) =
      λ list. list_clone_at SameText keys.lists copies.lists list cloned.lists in
      record {
        listed = λ id list is.
            listed_cloned (list_at keys list) (list_at copies list) (at list) (kept.listed id list (sym (lists id) ∙ is));
        own = λ id other list is also. kept.own id other list (sym (lists id) ∙ is) (sym (lists other) ∙ also);
        placed = λ key place is.
            let had = kept.placed key place (sym (places key) ∙ is) in (
              had.0,
              lists place.lease ∙ had.1,
              holds_cloned (entries_at keys had.0) (entries_at copies had.0) place.node key
                  (entries_cloned (list_at keys had.0) (list_at copies had.0) (at had.0)) had.2,
            );
        held = λ id list node key is holds.
            places key ∙ kept.held id list node key (sym (lists id) ∙ is)
            (cloned_holds (entries_at keys list) (entries_at copies list) node key
            (entries_cloned (list_at keys list) (list_at copies list) (at list)) holds);
      }

-- ---- the tournament

module _ (due copy : Tournament) (nodes : copy.nodes.items ≡ due.nodes.items) (slots : copy.slots ≡ due.slots) where
  pub timed_copied : (table new : ℕ → Option Lease) → ((id : ℕ) → new id ≡ table id) → IsTimed table due → IsTimed new copy
  timed_copied table new same timed = grind (arith, nat_tests)
