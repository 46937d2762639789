-- What stands on lists after one node more, or one less.
use Rattle.std.proofs.Common.{◌≡◌, ◌≢◌, ◌⊎◌, ℕ, List, [], ◌∷◌, ◌++◌, Option, Some, None, unwrap_or, refl, sym, ap, subst, ◌∙◌, inl, inr, arith}
use Rattle.std.proofs.lemmas.Bool.{cases_eq, Decides.nat_tests}
use Rattle.stm_lists.specs.Lists.{Lists, Place, list_at, entries_at, HasList, HasNode, StandsAt, Updates, first_node}
use Rattle.stm_watch.specs.Kept.{Holds}

-- ---- one list

pub holds-right : (node i : ℕ) (xs ys : List (ℕ × ℕ)) → Holds ys node i → Holds (xs ++ ys) node i
holds-right node i [] ys h = h
holds-right node i (e ∷ xs) ys h = inr (holds-right node i xs ys h)

pub holds-left : (node i : ℕ) (xs ys : List (ℕ × ℕ)) → Holds xs node i → Holds (xs ++ ys) node i
holds-left node i [] ys h = absurd h
holds-left node i (e ∷ xs) ys h = elim h [ inl here ↦ inl here | inr there ↦ inr (holds-left node i xs ys there) ]

-- among two parts it stands in one
pub holds-parts : (node i : ℕ) (xs ys : List (ℕ × ℕ)) → Holds (xs ++ ys) node i → Holds xs node i ⊎ Holds ys node i
holds-parts node i [] ys h = inr h
holds-parts node i (e ∷ xs) ys h =
    elim h [
      | inl here ↦ inl (inl here)
      | inr there ↦ elim (holds-parts node i xs ys there) [ inl left ↦ inl (inr left) | inr right ↦ inr right ]
    ]

holds-split : (node i : ℕ) (xs : List (ℕ × ℕ)) → Holds xs node i
    → (before : List (ℕ × ℕ)) × (after : List (ℕ × ℕ)) × (xs ≡ before ++ (node, i) ∷ after)
holds-split node i [] h = absurd h
holds-split node i (e ∷ xs) h =
    elim h [
      | inl here ↦ ([], xs, ap (λ (n : ℕ). (n, e.1) ∷ xs) here.0 ∙ ap (λ (v : ℕ). (node, v) ∷ xs) here.1)
      | inr there ↦ let more = holds-split node i xs there in (e ∷ more.0, more.1, ap (λ ys. e ∷ ys) more.2)
    ]

-- ---- the place of a node

-- a list on which something stands is there
there : (o : Option (List (ℕ × ℕ))) (node i : ℕ) → Holds (unwrap_or o []) node i → o ≡ Some (unwrap_or o [])
there o node i h = grind (arith, nat_tests)

-- a node that stands on a list with a number
pub record IsOn (s : Lists ℕ) (list node i : ℕ) : Type 0 where
  pub place : Place ℕ
  pub stands : StandsAt s node place
  pub here : place.list ≡ list
  pub number : place.value ≡ i

pub place_on : (s : Lists ℕ) (list node i : ℕ) → Holds (entries_at s list) node i → IsOn s list node i
place_on s list node i h =
    let split = holds-split node i (entries_at s list) h in
    record {
      place = record { list = list; before = split.0; value = i; after = split.1 };
      stands = record { stands = there (list_at s list) node i h ∙ ap Some split.2 };
      here = refl;
      number = refl;
    }

pub node_on : (s : Lists ℕ) (list node i : ℕ) → Holds (entries_at s list) node i → HasNode s node
node_on s list node i h = let on = place_on s list node i h in (on.place, on.stands)

-- ---- one node more

module _ (old new : Lists ℕ) (list node number : ℕ) (updates : Updates old new list (Some (entries_at old list ++ (node, number) ∷ []))) where
  more_here : entries_at new list ≡ entries_at old list ++ (node, number) ∷ []
  more_here = ap (λ o. unwrap_or o []) updates.changed

  more_else : (l : ℕ) → l ≢ list → entries_at new l ≡ entries_at old l
  more_else l differs = ap (λ o. unwrap_or o []) (updates.others l differs)

  pub more_new : Holds (entries_at new list) node number
  more_new = subst (λ xs. Holds xs node number) (sym more_here) (holds-right node number (entries_at old list) ((node, number) ∷ []) (inl (refl, refl)))

  pub more_kept : (l n i : ℕ) → Holds (entries_at old l) n i → Holds (entries_at new l) n i
  more_kept l n i h = grind (arith, nat_tests, cases_eq, more_here, holds-left, more_else)

  pub more_from : (l n i : ℕ) → Holds (entries_at new l) n i → Holds (entries_at old l) n i ⊎ ((l ≡ list) × (n ≡ node) × (i ≡ number))
  more_from l n i h = grind (arith, nat_tests, cases_eq, holds-parts, more_here, more_else)

  pub more_there : (l : ℕ) → HasList old l → HasList new l
  more_there l has = grind (arith, nat_tests, cases_eq)

-- ---- one node less

module _ (old new : Lists ℕ) (node : ℕ) (place : Place ℕ) (stands : StandsAt old node place)
    (updates : Updates old new place.list (Some (place.before ++ place.after))) (gone : HasNode new node → ⊥) where
  less_before : entries_at old place.list ≡ place.before ++ (node, place.value) ∷ place.after
  less_before = ap (λ o. unwrap_or o []) stands.stands

  less_here : entries_at new place.list ≡ place.before ++ place.after
  less_here = ap (λ o. unwrap_or o []) updates.changed

  less_else : (l : ℕ) → l ≢ place.list → entries_at new l ≡ entries_at old l
  less_else l differs = ap (λ o. unwrap_or o []) (updates.others l differs)

  pub less_kept : (l n i : ℕ) → i ≢ place.value → Holds (entries_at old l) n i → Holds (entries_at new l) n i
  less_kept l n i other h = grind (arith, nat_tests, cases_eq, less_here, less_before, less_else, holds-parts, holds-left, holds-right)

  pub less_from : (l n i : ℕ) → Holds (entries_at new l) n i → Holds (entries_at old l) n i × (n ≢ node)
  less_from l n i h = grind (arith, nat_tests, node_on, cases_eq, less_before, less_here, less_else, holds-parts, holds-left, holds-right)

  pub less_there : (l : ℕ) → HasList old l → HasList new l
  less_there l has = grind (arith, nat_tests, cases_eq)

-- ---- the front

pub front_on : (s : Lists ℕ) (list node : ℕ) → first_node (entries_at s list) ≡ Some node → (i : ℕ) × Holds (entries_at s list) node i
front_on s list node is = by_entries (entries_at s list) is
  where
    by_entries : (xs : List (ℕ × ℕ)) → first_node xs ≡ Some node → (i : ℕ) × Holds xs node i
    by_entries [] is = absurd (cc)
    by_entries (e ∷ xs) is = (e.1, inl (same is, refl))
      where
        same : Some e.0 ≡ Some node → e.0 ≡ node
        same is = cc

pub no_front : (s : Lists ℕ) (list node i : ℕ) → first_node (entries_at s list) ≡ None → Holds (entries_at s list) node i → ⊥
no_front s list node i is h = grind (arith, nat_tests)
