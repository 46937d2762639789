-- The keys of a lease: no key twice on its list, and ascending once they are sorted.
use Rattle.std.proofs.Common.{◌≡◌, ◌↔◌, ℕ, zero, suc, ◌+◌, ◌<◌, false, List, [], ◌∷◌, map, length, get_or, Option, Some, None, option_map, Contains, String}
use Rattle.std.proofs.Common.{string_bytes, refl, sym, ap, subst, ◌∙◌, inl, inr, arith, IsSorted, IsTrue, is_some}
use Rattle.std.proofs.lemmas.Bool.{cases_Bool, Decides.nat_tests}
use Rattle.std.proofs.lemmas.Cmp.{nat_list_cmp_total}
use Rattle.std.proofs.lemmas.List.{get_or-map, length-map}
use Rattle.std.proofs.lemmas.List.Sorted.{IsPermutation-map, Contains-permutation, IsPermutation-sym}
use Rattle.std.proofs.lemmas.Map.Keys.{IsDistinct-IsPermutation, apart_from_distinct}
use Rattle.std.proofs.lemmas.Map.Text.{is_eq-slice_cmp}
use Rattle.std.proofs.lemmas.Option.{same_Some}
use Rattle.std.proofs.lemmas.Slice.Eq.{bytes_eq-Decides}
use Rattle.std.specs.Cmp.Lexicographic.{slice_cmp}
use Rattle.std.specs.declared.cmp.Ordering.{Ordering}
use Rattle.std.specs.declared.cmp.Ordering.TheVariants.{Less}
use Rattle.std.specs.List.{IsDistinct, AllByRecursion}
use Rattle.std.specs.List.Sorted.{IsPermutation}
use Rattle.std.specs.Ordering.{nat_cmp, is_lt, is_eq, ordering_reverse}
use Rattle.std.specs.Str.{bytes_eq}
use Rattle.std.specs.String.{string_cmp}
use Rattle.stm_lists.specs.Lists.{Lists, entries_at, first_node, IsOff, IsApart}
use Rattle.stm_leases.specs.declared.lease.Attachment.{Attachment}
use Rattle.stm_leases.specs.AttachedKeys.{AreKeysOf, IsAscending, HasKeys}
use Rattle.stm_leases.specs.Leases.{Leases, lease_of}
use Rattle.stm_leases.specs.Kept.{Holds, AreInStep}

-- what is neither above nor equal is below
below : (r s : Ordering) → r ≡ ordering_reverse s → is_lt s ≡ false → is_eq r ≡ false → r ≡ Less
below r s flips no_fall differs = grind (arith, nat_tests)

-- texts that do not fall and differ ascend
ascending : (keys : List (List ℕ)) → ((k : ℕ) (d : List ℕ) → suc k < length keys → slice_cmp nat_cmp (get_or keys k d) (get_or keys (suc k) d) ≡ Less)
    → IsAscending keys
ascending [] up = tt
ascending (key ∷ []) up = tt
ascending (key ∷ (next ∷ rest)) up = (up 0 [] (omega arith), ascending (next ∷ rest) (λ k d within. up (suc k) d (omega arith)))

contains-cons : {X : Type 0} (x y : X) (xs : List X) → Contains xs y → Contains (x ∷ xs) y
contains-cons x y xs c = (suc c.0, omega (arith, c.1), c.2)

bytes_flip : (x y : List ℕ) → bytes_eq x y ≡ bytes_eq y x
bytes_flip x y = grind (arith, nat_tests, bytes_eq-Decides)

-- the place of a key that is attached to a lease
pub placed_at : (place_of : List ℕ → Option Attachment) (id : ℕ) (key : List ℕ) (o : Option Attachment) → place_of key ≡ o
    → option_map (λ (p : Attachment). p.lease) o ≡ Some id → (p : Attachment) × (place_of key ≡ Some p) × (p.lease ≡ id)
placed_at place_of id key o found same = grind (arith, nat_tests, same_Some)

module _ {A : Type 0} where
  -- a key is among the texts exactly where a node holds it
  pub holds-contains : (node : ℕ) (key : List ℕ) (xs : List (ℕ × String A)) → Holds xs node key → Contains (map (λ (e : ℕ × String A). string_bytes e.1) xs) key
  holds-contains node key [] h = absurd h
  holds-contains node key (e ∷ xs) h =
      elim h [ inl here ↦ (0, omega arith, here.1) | inr there ↦ contains-cons _ _ _ (holds-contains node key xs there) ]

  pub contains-holds : (key : List ℕ) (xs : List (ℕ × String A)) → Contains (map (λ (e : ℕ × String A). string_bytes e.1) xs) key
      → (node : ℕ) × Holds xs node key
  contains-holds key [] c = absurd (omega (arith, c.1))
  contains-holds key (e ∷ xs) c = by_index c.0 c.1 c.2 (contains-holds key xs)
    where
      by_index : (k : ℕ) → k < suc (length (map (λ (e : ℕ × String A). string_bytes e.1) xs))
          → get_or (string_bytes e.1 ∷ map (λ (e : ℕ × String A). string_bytes e.1) xs) k key ≡ key
          → (Contains (map (λ (e : ℕ × String A). string_bytes e.1) xs) key → (node : ℕ) × Holds xs node key) → (node : ℕ) × Holds (e ∷ xs) node key
      by_index zero within is rest = (e.0, inl (refl, is))
      by_index (suc k) within is rest = let more = rest (k, omega arith, is) in (more.0, inr more.1)

  module _ (place_of : List ℕ → Option Attachment) (id : ℕ) where
    others_differ : (node : ℕ) (key : List ℕ) (xs : List (ℕ × String A)) → place_of key ≡ Some (record { lease = id; node = node }) → IsOff node xs
        → ((n : ℕ) (k : List ℕ) → Holds xs n k → place_of k ≡ Some (record { lease = id; node = n }))
        → AllByRecursion (λ y. bytes_eq key y ≡ false) (map (λ (e : ℕ × String A). string_bytes e.1) xs)
    others_differ node key [] is off held = tt
    others_differ node key (e ∷ xs) is off held = (
      elim (cases_Bool (bytes_eq key (string_bytes e.1))) [
        | inl same ↦
            let places : record { lease = id; node = node } ≡ record { lease = id; node = e.0 } =
            same_Some {A = Attachment} _ _
            (sym is ∙ ap place_of ((bytes_eq-Decides key (string_bytes e.1)).0 same) ∙ held e.0 (string_bytes e.1) (inl (refl, refl))) in
            absurd (off.0 (sym (ap (λ (p : Attachment). p.node) places)))
        | inr differs ↦ differs
      ],
      others_differ node key xs is off.1 (λ n k h. held n k (inr h)),
    )

    -- no key stands twice, since no node does
    pub keys_differ : (xs : List (ℕ × String A)) → IsApart xs → ((n : ℕ) (k : List ℕ) → Holds xs n k → place_of k ≡ Some (record { lease = id; node = n }))
        → IsDistinct bytes_eq (map (λ (e : ℕ × String A). string_bytes e.1) xs)
    unfolding IsDistinct
    keys_differ [] apart held = tt
    keys_differ (e ∷ xs) apart held = (
      others_differ e.0 (string_bytes e.1) xs (held e.0 (string_bytes e.1) (inl (refl, refl))) apart.0 (λ n k h. held n k (inr h)),
      keys_differ xs apart.1 (λ n k h. held n k (inr h)),
    )

  -- a sort of texts that differ makes them ascend
  pub sorted-ascends : (texts sorted : List (String A)) → IsPermutation texts sorted → IsSorted string_cmp sorted → IsDistinct bytes_eq (map string_bytes texts)
      → IsAscending (map string_bytes sorted)
  sorted-ascends texts sorted moved up distinct = ascending (map string_bytes sorted) step
    where
      all_differ : IsDistinct bytes_eq (map string_bytes sorted)
      all_differ = IsDistinct-IsPermutation bytes_eq bytes_flip (map string_bytes texts) (map string_bytes sorted)
          (IsPermutation-map string_bytes texts sorted moved) distinct

      at : (k : ℕ) (s : String A) (d : List ℕ) → k < length sorted → get_or (map string_bytes sorted) k d ≡ string_bytes (get_or sorted k s)
      at k s d within = get_or-map string_bytes sorted k s d within

      some_text : (xs : List (String A)) (k : ℕ) → k < length xs → String A
      some_text [] k within = absurd (omega arith)
      some_text (x ∷ xs) k within = x

      step : (k : ℕ) (d : List ℕ) → suc k < length (map string_bytes sorted)
          → slice_cmp nat_cmp (get_or (map string_bytes sorted) k d) (get_or (map string_bytes sorted) (suc k) d) ≡ Less
      step k d within =
          let long = length-map sorted string_bytes in
          let lower : k < length sorted = omega arith in
          let upper : suc k < length sorted = omega arith in
          let s = some_text sorted k lower in
          let next : k + 1 ≡ suc k = omega arith in
          let no_fall : is_lt (string_cmp (get_or sorted (suc k) s) (get_or sorted k s)) ≡ false =
          subst (λ (n : ℕ). is_lt (string_cmp (get_or sorted n s) (get_or sorted k s)) ≡ false) next (up k s (omega arith) (omega arith)) in
          let differ : bytes_eq (get_or (map string_bytes sorted) k d) (get_or (map string_bytes sorted) (suc k) d) ≡ false =
          apart_from_distinct bytes_eq (map string_bytes sorted) k (suc k) d all_differ (omega arith) within in
          let first = at k s d lower in
          let second = at (suc k) s d upper in
          rw (first, second) (below (slice_cmp nat_cmp (string_bytes (get_or sorted k s)) (string_bytes (get_or sorted (suc k) s)))
          (slice_cmp nat_cmp (string_bytes (get_or sorted (suc k) s)) (string_bytes (get_or sorted k s)))
          (nat_list_cmp_total.antisymm (string_bytes (get_or sorted k s)) (string_bytes (get_or sorted (suc k) s))) no_fall
          (is_eq-slice_cmp (string_bytes (get_or sorted k s)) (string_bytes (get_or sorted (suc k) s)) ∙ rw (← first, ← second) differ))

  -- a key is attached to a lease exactly where the lease's list has a node
  pub list-has_keys : (s : Leases) (list_of : ℕ → Option ℕ) (place_of : List ℕ → Option Attachment) (keys : Lists (String A)) (id list : ℕ)
      → AreInStep list_of place_of keys → ((key : List ℕ) → lease_of s key ≡ option_map (λ (p : Attachment). p.lease) (place_of key)) → list_of id ≡ Some list
      → IsTrue (is_some (first_node (entries_at keys list))) ↔ HasKeys (lease_of s) id
  list-has_keys s list_of place_of keys id list in_step seen live = (
    λ some. by_entries (entries_at keys list) refl some,
    λ has. among (entries_at keys list) (holds-contains _ has.0 (entries_at keys list) (held_key has.0 has.1).1),
  )
    where
      by_entries : (xs : List (ℕ × String A)) → entries_at keys list ≡ xs → IsTrue (is_some (first_node xs)) → HasKeys (lease_of s) id
      by_entries [] is some = absurd (cc)
      by_entries (e ∷ xs) is some =
          let on : Holds (entries_at keys list) e.0 (string_bytes e.1) =
          subst (λ (ys : List (ℕ × String A)). Holds ys e.0 (string_bytes e.1)) (sym is) (inl (refl, refl)) in
          (string_bytes e.1, seen (string_bytes e.1) ∙ ap (option_map (λ (p : Attachment). p.lease)) (in_step.held id list e.0 (string_bytes e.1) live on))

      held_key : (key : List ℕ) → lease_of s key ≡ Some id → (node : ℕ) × Holds (entries_at keys list) node key
      held_key key is =
          let place = placed_at place_of id key (place_of key) refl (sym (seen key) ∙ is) in
          let had = in_step.placed key place.0 place.1 in
          let same : had.0 ≡ list = same_Some had.0 list (sym had.1 ∙ ap list_of place.2 ∙ live) in
          (place.0.node, subst (λ (l : ℕ). Holds (entries_at keys l) place.0.node key) same had.2)

      among : (xs : List (ℕ × String A)) → {key : List ℕ} → Contains (map (λ (e : ℕ × String A). string_bytes e.1) xs) key → IsTrue (is_some (first_node xs))
      among [] c = absurd (omega (arith, c.1))
      among (e ∷ xs) c = refl

  -- no key is attached to a lease that has no list
  pub none-attach : (s : Leases) (list_of : ℕ → Option ℕ) (place_of : List ℕ → Option Attachment) (keys : Lists (String A)) (id : ℕ)
      → AreInStep list_of place_of keys → ((key : List ℕ) → lease_of s key ≡ option_map (λ (p : Attachment). p.lease) (place_of key)) → list_of id ≡ None
      → ¬ HasKeys (lease_of s) id
  none-attach s list_of place_of keys id in_step seen none has = grind (arith, nat_tests, placed_at)

  -- the sorted texts of a lease's list are the keys of the lease
  pub sorted-keys : (s : Leases) (list_of : ℕ → Option ℕ) (place_of : List ℕ → Option Attachment) (keys : Lists (String A)) (id list : ℕ)
      (texts sorted : List (String A)) → AreInStep list_of place_of keys
      → ((key : List ℕ) → lease_of s key ≡ option_map (λ (p : Attachment). p.lease) (place_of key)) → list_of id ≡ Some list → IsApart (entries_at keys list)
      → map string_bytes texts ≡ map (λ (e : ℕ × String A). string_bytes e.1) (entries_at keys list) → IsPermutation texts sorted → IsSorted string_cmp sorted
      → AreKeysOf (lease_of s) id (map string_bytes sorted)
  sorted-keys s list_of place_of keys id list texts sorted in_step seen live apart are moved up =
      let distinct = subst (IsDistinct bytes_eq) (sym are) (keys_differ place_of id (entries_at keys list) apart (λ n k h. in_step.held id list n k live h)) in
      let permuted = IsPermutation-map string_bytes texts sorted moved in
      record {
        ascending = sorted-ascends texts sorted moved up distinct;
        each = λ key. (
          λ among.
              let unsorted = Contains-permutation (map string_bytes sorted) (map string_bytes texts) key (IsPermutation-sym _ _ permuted) among in
              let node = contains-holds key (entries_at keys list) (subst (λ (ks : List (List ℕ)). Contains ks key) are unsorted) in
              seen key ∙ ap (option_map (λ (p : Attachment). p.lease)) (in_step.held id list node.0 key live node.1),
          λ attaches.
              let place = placed_at place_of id key (place_of key) refl (sym (seen key) ∙ attaches) in
              let had = in_step.placed key place.0 place.1 in
              let same : had.0 ≡ list = same_Some had.0 list (sym had.1 ∙ ap list_of place.2 ∙ live) in
              let holds = subst (λ (l : ℕ). Holds (entries_at keys l) place.0.node key) same had.2 in
              Contains-permutation (map string_bytes texts) (map string_bytes sorted) key permuted
              (subst (λ (ks : List (List ℕ)). Contains ks key) (sym are) (holds-contains place.0.node key (entries_at keys list) holds)),
        );
      }
