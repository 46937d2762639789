-- The keys on a lease are those that are attached to it, and a lease has one list of keys.
use Rattle.std.proofs.Common.{◌≡◌, ℕ, zero, suc, ◌<◌, Bool, true, cond, ◌&&◌, T, is_some, List, [], ◌∷◌, length, map, get_or, Option, Some, None}
use Rattle.std.proofs.Common.{Contains, refl, sym, ap, subst, ◌∙◌, inl, inr, arith}
use Rattle.std.proofs.lemmas.Bool.{eqb-true, Decides.nat_tests}
use Rattle.std.proofs.lemmas.Cmp.{nat_list_cmp_total, nat_eq_equiv}
use Rattle.std.proofs.lemmas.Map.Views.{list_any-from_Contains, Contains-from_any}
use Rattle.std.specs.Cmp.{eq_by_cmp_equiv}
use Rattle.std.specs.Cmp.Lexicographic.{slice_cmp}
use Rattle.std.specs.declared.cmp.Ordering.{Ordering}
use Rattle.std.specs.declared.cmp.Ordering.TheVariants.{Less, Equal}
use Rattle.std.specs.List.{list_any}
use Rattle.std.specs.Ordering.{nat_cmp, eq_by_cmp, is_lt, is_eq}
use Rattle.std.specs.FinMap as finmap
use Rattle.stm_leases.specs.AttachedKeys.{Attached, is_on, keys_on, IsAscending, AreKeysOf}
use Rattle.stm_leases.specs.Laws.{KeysOnAreKeys, AscendingIsUnique, OneListOfKeys}
use Rattle.stm_leases.proofs.DueLaws.{IsAmong}

-- texts of a sorted list ascend
parts : (a b : Bool) → T (a && b) → (a ≡ true) × T b
parts a b t = grind (arith, nat_tests)

less : (o : Ordering) → is_lt o ≡ true → o ≡ Less
less o is = grind (arith, nat_tests)

tied : (o : Ordering) → is_eq o ≡ true → o ≡ Equal
tied o is = grind (arith, nat_tests)

sorted-ascends : (es : List (List ℕ × ℕ)) → T (finmap.is_sorted (slice_cmp nat_cmp) es) → IsAscending (map (λ (e : List ℕ × ℕ). e.0) es)
sorted-ascends [] sorted = tt
sorted-ascends (e ∷ []) sorted = tt
sorted-ascends (e ∷ (f ∷ es)) sorted =
    let outer = parts (finmap.Entries.below_all (slice_cmp nat_cmp) e.0 (f ∷ es)) (finmap.is_sorted (slice_cmp nat_cmp) (f ∷ es)) sorted in
    let inner = parts (is_lt (slice_cmp nat_cmp e.0 f.0)) (finmap.Entries.below_all (slice_cmp nat_cmp) e.0 es) (subst T (sym outer.0) tt) in
    (less (slice_cmp nat_cmp e.0 f.0) inner.0, sorted-ascends (f ∷ es) outer.1)

-- equal by their order is equal
same_text : (x y : List ℕ) → eq_by_cmp (slice_cmp nat_cmp) x y ≡ true → x ≡ y
same_text x y is = finmap.slice_cmp-IsAntisymmetric finmap.nat_cmp-IsAntisymmetric x y (tied (slice_cmp nat_cmp x y) is)

module _ (attached : Attached) (id : ℕ) where
  -- what the kept keys are attached to
  kept : (key : List ℕ) → finmap.get (finmap.retain_keys attached (λ k. is_on id (finmap.get attached k))) key ≡ cond (is_on id (finmap.get attached key))
      (finmap.get attached key) None
  kept key = finmap.get-retain_keys attached (λ k. is_on id (finmap.get attached k)) key
      (λ x tie. ap (λ (k : List ℕ). is_on id (finmap.get attached k)) (sym (finmap.slice_cmp-IsAntisymmetric finmap.nat_cmp-IsAntisymmetric key x tie)))

  attaches : (o : Option ℕ) → is_some (cond (is_on id o) o None) ≡ true → o ≡ Some id
  attaches o is = grind (arith, nat_tests, eqb-true)

  is_attached : (o : Option ℕ) → o ≡ Some id → is_some (cond (is_on id o) o None) ≡ true
  is_attached o is = subst (λ (p : Option ℕ). is_some (cond (is_on id p) p None) ≡ true) (sym is) (ap (λ b. is_some (cond b (Some id) None)) (nat_eq_equiv.refl id))

  is_member : (key : List ℕ)
      → is_some (cond (is_on id (finmap.get attached key)) (finmap.get attached key) None) ≡ list_any (eq_by_cmp (slice_cmp nat_cmp) key) (keys_on attached id)
  is_member key = ap is_some (sym (kept key)) ∙ finmap.contains_key-keys (finmap.retain_keys attached (λ k. is_on id (finmap.get attached k))) key

  are_keys : AreKeysOf (finmap.get attached) id (keys_on attached id)
  are_keys = record {
    ascending = sorted-ascends (finmap.entries (finmap.retain_keys attached (λ k. is_on id (finmap.get attached k))))
        (finmap.entries_sorted (finmap.retain_keys attached (λ k. is_on id (finmap.get attached k))));
    each = λ key. (
      λ among. attaches (finmap.get attached key) (is_member key ∙ list_any-from_Contains (eq_by_cmp_equiv nat_list_cmp_total) key (keys_on attached id) among),
      λ is. Contains-from_any same_text key (keys_on attached id) (sym (is_member key) ∙ is_attached (finmap.get attached key) is),
    );
  }

pub keys_on_are_keys : KeysOnAreKeys
keys_on_are_keys = are_keys

-- a member by its index, and by recursion
contains-among : (xs : List (List ℕ)) (key : List ℕ) (k : ℕ) → k < length xs → get_or xs k key ≡ key → IsAmong key xs
contains-among [] key k within is = absurd (omega arith)
contains-among (x ∷ xs) key zero within is = inl is
contains-among (x ∷ xs) key (suc k) within is = inr (contains-among xs key k (omega arith) is)

among-contains : (xs : List (List ℕ)) (key : List ℕ) → IsAmong key xs → Contains xs key
among-contains [] key among = absurd among
among-contains (x ∷ xs) key among = elim among [
  | inl here ↦ (0, omega arith, here)
  | inr there ↦ let c = among-contains xs key there in (suc c.0, omega (arith, c.1), c.2)
]

irreflexive : (key : List ℕ) → slice_cmp nat_cmp key key ≡ Less → ⊥
irreflexive key less = grind (arith, nat_tests, less, nat_list_cmp_total)

rest_ascends : (x : List ℕ) (xs : List (List ℕ)) → IsAscending (x ∷ xs) → IsAscending xs
rest_ascends x xs ascending = grind (arith, nat_tests)

-- the first of an ascending list is below the rest
below_rest : (x : List ℕ) (xs : List (List ℕ)) (key : List ℕ) → IsAscending (x ∷ xs) → IsAmong key xs → slice_cmp nat_cmp x key ≡ Less
below_rest x [] key ascending among = absurd among
below_rest x (y ∷ ys) key ascending among = elim among [
  | inl here ↦ subst (λ (k : List ℕ). slice_cmp nat_cmp x k ≡ Less) here ascending.0
  | inr there ↦ nat_list_cmp_total.trans x y key ascending.0 (below_rest y ys key ascending.1 there)
]

same_first : (x y : List ℕ) (xs ys : List (List ℕ)) → IsAscending (x ∷ xs) → IsAscending (y ∷ ys) → IsAmong x (y ∷ ys) → IsAmong y (x ∷ xs) → x ≡ y
same_first x y xs ys up_x up_y x_in y_in = elim x_in [
  | inl here ↦ sym here
  | inr later ↦ elim y_in [
    | inl here ↦ here
    | inr later_too ↦ absurd (irreflexive x (nat_list_cmp_total.trans x y x (below_rest x xs y up_x later_too) (below_rest y ys x up_y later)))
  ]
]

-- members of the rest are members of the other rest, where the first ones are the same
in_rest : (x y : List ℕ) (xs ys : List (List ℕ)) → x ≡ y → IsAscending (x ∷ xs) → ((key : List ℕ) → IsAmong key (x ∷ xs) → IsAmong key (y ∷ ys))
    → (key : List ℕ) → IsAmong key xs → IsAmong key ys
in_rest x y xs ys same up into key among = grind (arith, nat_tests, irreflexive, below_rest)

unique : (xs ys : List (List ℕ)) → IsAscending xs → IsAscending ys → ((key : List ℕ) → IsAmong key xs → IsAmong key ys)
    → ((key : List ℕ) → IsAmong key ys → IsAmong key xs) → xs ≡ ys
unique [] [] up_x up_y into back = refl
unique [] (y ∷ ys) up_x up_y into back = absurd (back y (inl refl))
unique (x ∷ xs) [] up_x up_y into back = absurd (into x (inl refl))
unique (x ∷ xs) (y ∷ ys) up_x up_y into back =
    let same = same_first x y xs ys up_x up_y (into x (inl refl)) (back y (inl refl)) in
    let rest = unique xs ys (rest_ascends x xs up_x) (rest_ascends y ys up_y) (in_rest x y xs ys same up_x into) (in_rest y x ys xs (sym same) up_y back) in
    λ i. same i ∷ rest i

pub ascending_is_unique : AscendingIsUnique
ascending_is_unique one other up_one up_other members =
    unique one other up_one up_other
    (λ key among. let c = (members key).0 (among-contains one key among) in contains-among other key c.0 c.1 c.2)
    (λ key among. let c = (members key).1 (among-contains other key among) in contains-among one key c.0 c.1 c.2)

pub one_list_of_keys : OneListOfKeys
one_list_of_keys lease_of id one other are are_too =
    ascending_is_unique one other are.ascending are_too.ascending
    (λ key. (λ c. (are_too.each key).1 ((are.each key).0 c), λ c. (are.each key).1 ((are_too.each key).0 c)))
