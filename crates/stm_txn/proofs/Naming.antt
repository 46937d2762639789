-- The keys of a lease, computed from the history, are those that are attached to it.
use Rattle.std.proofs.Common.{◌≡◌, ℕ, ◌<◌, zero, suc, Bool, true, false, cond, List, [], ◌∷◌, length, get_or, Option, Some, None, refl, sym, ◌∙◌, ap, subst}
use Rattle.std.proofs.Common.{arith, eqb-true, inl, inr}
use Rattle.std.specs.Prelude.{bytes_eq, ◌↔◌, ◌⊎◌, ◌||◌, ◌++◌, map, Contains, filter, is_some}
use Rattle.std.specs.List.{list_any}
use Rattle.std.specs.Ordering.{nat_cmp, ordering_reverse, eq_by_cmp}
use Rattle.std.specs.Cmp.Lexicographic.{slice_cmp, nat_list_cmp_total}
use Rattle.std.specs.declared.cmp.Ordering.TheVariants.{Less, Equal, Greater}
use Rattle.std.specs.FinMap as finmap
use Rattle.std.specs.FinMap.{find}
use Rattle.std.specs.FinMap.Entries.{is_some-find}
use Rattle.std.proofs.lemmas.Bool.{eq-eqb, Decides.nat_tests}
use Rattle.std.proofs.lemmas.Map.Text.{is_eq-slice_cmp}
use Rattle.stm_history.specs.declared.change.Change.{Change}
use Rattle.stm_history.specs.declared.key_state.KeyState.{KeyState}
use Rattle.stm_history.specs.Opening.{Opening, if_reached}
use Rattle.stm_history.specs.Cut.{changed_before, keys_named as named_by}
use Rattle.stm_history.specs.History.{History, number_of_last, key_of, key_now, key_after, change_of, after_change}
use Rattle.stm_history.proofs.HistoryLaws.{one_more}
use Rattle.stm_leases.specs.Leases.{Leases, lease_of}
use Rattle.stm_leases.specs.AttachedKeys.{is_on, keys_on, IsAscending, AreKeysOf}
use Rattle.stm_leases.proofs.KeyLaws.{keys_on_are_keys, one_list_of_keys, ascending_is_unique}
use Rattle.stm_txn.specs.Leasing.{AttachedAsStored, lease_now}
use Rattle.stm_txn.specs.PresentKeys.{keys_present, PresentKeysAreListed}
use Rattle.stm_txn.specs.LeaseKeys.{with_key, in_order, keys_named, keys_of_lease}
use Rattle.stm_outcome.proofs.Branching.{same_text}

-- Ascending keys stay so, one more among them.
turned : (a b : List ℕ) → slice_cmp nat_cmp a b ≡ Greater → slice_cmp nat_cmp b a ≡ Less
turned a b greater = nat_list_cmp_total.antisymm b a ∙ ap ordering_reverse greater

below_with : (k key : List ℕ) (ks : List (List ℕ)) → slice_cmp nat_cmp k key ≡ Less → IsAscending (k ∷ ks) → IsAscending (k ∷ with_key key ks)
below_with k key [] less ascending = (less, tt)
below_with k key (x ∷ xs) less ascending =
    elim (slice_cmp nat_cmp key x) as (λ o. slice_cmp nat_cmp key x ≡ o →
    IsAscending (k ∷ elim o as (λ r. List (List ℕ)) [ Less ↦ key ∷ (x ∷ xs) | Equal ↦ x ∷ xs | Greater ↦ x ∷ with_key key xs ])) [
      | Less ↦ λ is. (less, (is, ascending.1))
      | Equal ↦ λ is. ascending
      | Greater ↦ λ is. (ascending.0, below_with x key xs (turned key x is) ascending.1)
    ] refl

ascending_with : (key : List ℕ) (ks : List (List ℕ)) → IsAscending ks → IsAscending (with_key key ks)
ascending_with key [] ascending = tt
ascending_with key (x ∷ xs) ascending = grind (arith, nat_tests, below_with, turned)

orders : (keys : List (List ℕ)) → IsAscending (in_order keys)
orders [] = tt
orders (key ∷ keys) = ascending_with key (in_order keys) (orders keys)

pub skipped : (k x : List ℕ) (xs : List (List ℕ)) → IsAscending (k ∷ (x ∷ xs)) → IsAscending (k ∷ xs)
skipped k x [] ascending = tt
skipped k x (y ∷ ys) ascending = (nat_list_cmp_total.trans k x y ascending.0 ascending.1.0, ascending.1.1)

pub rest_ascending : (k : List ℕ) (xs : List (List ℕ)) → IsAscending (k ∷ xs) → IsAscending xs
rest_ascending k xs ascending = grind (arith, nat_tests)

below_filtered : (test : List ℕ → Bool) (k : List ℕ) (ks : List (List ℕ)) → IsAscending (k ∷ ks) → IsAscending (k ∷ filter test ks)
below_filtered test k [] ascending = tt
below_filtered test k (x ∷ xs) ascending =
    grind (arith, nat_tests, skipped, below_filtered test x xs ascending.1, below_filtered test k xs (skipped k x xs ascending))

filtered_ascend : (test : List ℕ → Bool) (ks : List (List ℕ)) → IsAscending ks → IsAscending (filter test ks)
filtered_ascend test [] ascending = tt
filtered_ascend test (x ∷ xs) ascending = grind (arith, nat_tests, below_filtered, rest_ascending, filtered_ascend test xs (rest_ascending x xs ascending))

-- a key is among these
abbrev IsAmong : List ℕ → List (List ℕ) → Type 0
IsAmong key [] = ⊥
IsAmong key (x ∷ xs) = (x ≡ key) ⊎ IsAmong key xs

among_with : (key : List ℕ) (ks : List (List ℕ)) → IsAmong key (with_key key ks)
among_with key [] = inl refl
among_with key (x ∷ xs) =
    elim (slice_cmp nat_cmp key x) as (λ o. slice_cmp nat_cmp key x ≡ o →
    IsAmong key (elim o as (λ r. List (List ℕ)) [ Less ↦ key ∷ (x ∷ xs) | Equal ↦ x ∷ xs | Greater ↦ x ∷ with_key key xs ])) [
      | Less ↦ λ is. inl refl
      | Equal ↦ λ is. inl (sym (finmap.slice_cmp-IsAntisymmetric finmap.nat_cmp-IsAntisymmetric key x is))
      | Greater ↦ λ is. inr (among_with key xs)
    ] refl

later_among : (key other x : List ℕ) (xs : List (List ℕ)) → (IsAmong key xs → IsAmong key (with_key other xs)) →
    (x ≡ key) ⊎ IsAmong key xs → (x ≡ key) ⊎ IsAmong key (with_key other xs)
later_among key other x xs rest h6 = grind (arith, nat_tests)

still_among : (key other : List ℕ) (ks : List (List ℕ)) → IsAmong key ks → IsAmong key (with_key other ks)
still_among key other [] among = absurd among
still_among key other (x ∷ xs) among = grind (arith, nat_tests, later_among, still_among key other xs)

older_among : (key : List ℕ) (cs : List Change) (ks : List (List ℕ)) → IsAmong key (in_order ks) → IsAmong key (in_order (map key_of cs ++ ks))
older_among key [] ks among = among
older_among key (c ∷ cs) ks among = still_among key (key_of c) (in_order (map key_of cs ++ ks)) (older_among key cs ks among)

changed_case : (b : Bool) (key : List ℕ) (c d : Change) (cs : List Change) (ks : List (List ℕ)) → bytes_eq (key_of d) key ≡ b →
    (change_of key cs ≡ Some c → IsAmong key (in_order (map key_of cs ++ ks))) → cond b (Some d) (change_of key cs) ≡ Some c
    → IsAmong key (in_order (map key_of (d ∷ cs) ++ ks))
changed_case true key c d cs ks test rest is =
    subst (λ (k : List ℕ). IsAmong k (in_order (map key_of (d ∷ cs) ++ ks))) (same_text (key_of d) key test)
    (among_with (key_of d) (in_order (map key_of cs ++ ks)))
changed_case false key c d cs ks test rest is = still_among key (key_of d) (in_order (map key_of cs ++ ks)) (rest is)

changed_among : (key : List ℕ) (c : Change) (cs : List Change) (ks : List (List ℕ)) → change_of key cs ≡ Some c → IsAmong key (in_order (map key_of cs ++ ks))
changed_among key c [] ks is = cc
changed_among key c (d ∷ cs) ks is = changed_case (bytes_eq (key_of d) key) key c d cs ks refl (changed_among key c cs ks) is

-- a present key was named
present_case : (n : ℕ) (key : List ℕ) (o : Option Change) (before : Option KeyState) (cs : List Change) (ks : List (List ℕ)) → change_of key cs ≡ o →
    (is_some before ≡ true → IsAmong key (in_order ks)) → is_some (after_change n o before) ≡ true → IsAmong key (in_order (map key_of cs ++ ks))
present_case n key None before cs ks is older present = older_among key cs ks (older present)
present_case n key (Some c) before cs ks is older present = changed_among key c cs ks is

-- at the opening, too
any_case : (b : Bool) (key k : List ℕ) (keys : List (List ℕ)) → bytes_eq key k ≡ b → (list_any (eq_by_cmp (slice_cmp nat_cmp) key) keys ≡ true
    → IsAmong key (in_order keys)) → (b || list_any (eq_by_cmp (slice_cmp nat_cmp) key) keys) ≡ true → IsAmong key (in_order (k ∷ keys))
any_case true key k keys test rest any =
    subst (λ (x : List ℕ). IsAmong x (in_order (k ∷ keys))) (sym (same_text key k test)) (among_with k (in_order keys))
any_case false key k keys test rest any = still_among key k (in_order keys) (rest any)

any_among : (key : List ℕ) (keys : List (List ℕ)) → list_any (eq_by_cmp (slice_cmp nat_cmp) key) keys ≡ true → IsAmong key (in_order keys)
any_among key [] any = cc
any_among key (k ∷ keys) any = grind (arith, nat_tests, any_case, is_eq-slice_cmp, any_among key keys)

reached_some : (number : ℕ) (o : Option KeyState) → is_some (if_reached number o) ≡ true → is_some o ≡ true
reached_some number o some = grind (arith, nat_tests)

abbrev keys_at : Opening → List (List ℕ)
keys_at opening = map (λ (e : List ℕ × KeyState). e.0) opening.states

present_after : (opening : Opening) (key : List ℕ) (revisions : List (List Change)) → is_some (key_after opening key revisions) ≡ true →
    IsAmong key (in_order (changed_before revisions (keys_at opening)))
present_after opening key [] present =
    any_among key (keys_at opening)
    (sym (is_some-find (slice_cmp nat_cmp) key opening.states)
    ∙ reached_some opening.number (find (slice_cmp nat_cmp) key opening.states) present)
present_after opening key (changes ∷ older) present =
    present_case (number_of_last opening (changes ∷ older)) key (change_of key changes) (key_after opening key older) changes
    (changed_before older (keys_at opening)) refl
    (present_after opening key older) (sym (ap (λ (s : Option KeyState). is_some s) (one_more opening key changes older)) ∙ present)

present_named : (h : History) (key : List ℕ) → is_some (key_now h key) ≡ true → IsAmong key (keys_named h)
present_named h key present = present_after h.opening key h.revisions present

-- which keys pass the test of a lease
on_case : (id : ℕ) (o : Option ℕ) → (is_on id o ≡ true) ↔ (o ≡ Some id)
on_case id o = grind (arith, nat_tests, eqb-true, eq-eqb)

filtered_case : (b : Bool) (test : List ℕ → Bool) (key x : List ℕ) (xs : List (List ℕ)) → test x ≡ b →
    (IsAmong key (filter test xs) → IsAmong key xs × (test key ≡ true)) →
    IsAmong key (cond b (x ∷ filter test xs) (filter test xs)) → ((x ≡ key) ⊎ IsAmong key xs) × (test key ≡ true)
filtered_case b test key x xs is rest there = grind (arith, nat_tests)

passed : (test : List ℕ → Bool) (key : List ℕ) (ks : List (List ℕ)) → IsAmong key (filter test ks) → IsAmong key ks × (test key ≡ true)
passed test key [] among = absurd among
passed test key (x ∷ xs) among = filtered_case (test x) test key x xs refl (passed test key xs) among

passes_case : (b : Bool) (test : List ℕ → Bool) (key x : List ℕ) (xs : List (List ℕ)) → test x ≡ b → test key ≡ true →
    (IsAmong key xs → IsAmong key (filter test xs)) → (x ≡ key) ⊎ IsAmong key xs → IsAmong key (cond b (x ∷ filter test xs) (filter test xs))
passes_case b test key x xs is at rest h9 = grind (arith, nat_tests)

passes : (test : List ℕ → Bool) (key : List ℕ) (ks : List (List ℕ)) → test key ≡ true → IsAmong key ks → IsAmong key (filter test ks)
passes test key [] at among = absurd among
passes test key (x ∷ xs) at among = passes_case (test x) test key x xs refl at (passes test key xs at) among

-- members by their places
at_place : (xs : List (List ℕ)) (key : List ℕ) (k : ℕ) → k < length xs → get_or xs k key ≡ key → IsAmong key xs
at_place [] key k within is = absurd (omega arith)
at_place (x ∷ xs) key zero within is = inl is
at_place (x ∷ xs) key (suc k) within is = inr (at_place xs key k (omega arith) is)

place_of : (xs : List (List ℕ)) (key : List ℕ) → IsAmong key xs → Contains xs key
place_of [] key among = absurd among
place_of (x ∷ xs) key (inl here) = (0, omega arith, here)
place_of (x ∷ xs) key (inr there) = let found : Contains xs key = place_of xs key there in (suc found.0, omega (arith, found.1), found.2)

pub are_keys : (h : History) (id : ℕ) → AreKeysOf (lease_now h) id (keys_of_lease h id)
are_keys h id = grind (arith, nat_tests, filtered_ascend, orders, on_case, passed, at_place, place_of, passes, present_named)

-- the keys on a lease's list are these
pub is_the_list : (s : Leases) (h : History) (id : ℕ) (keys : List (List ℕ)) → keys ≡ keys_on s.attached id → AttachedAsStored (lease_of s) h →
    keys ≡ keys_of_lease h id
is_the_list s h id keys is kept =
    let on : AreKeysOf (lease_of s) id (keys_on s.attached id) = keys_on_are_keys s.attached id in
    is ∙ one_list_of_keys (lease_now h) id (keys_on s.attached id) (keys_of_lease h id)
    (record {
      ascending = on.ascending;
      each = λ key. ((λ has. sym (kept key) ∙ (on.each key).0 has), (λ at. (on.each key).1 (kept key ∙ at)));
    })
    (are_keys h id)

-- the keys that are present
pub present_ascend : (h : History) → IsAscending (keys_present h)
present_ascend h = filtered_ascend (λ key. is_some (key_now h key)) (keys_named h) (orders (named_by h))

pub present_each : (h : History) (key : List ℕ) → Contains (keys_present h) key ↔ (is_some (key_now h key) ≡ true)
present_each h key = grind (arith, nat_tests, passed, at_place, place_of, passes, present_named)

pub present_listed : PresentKeysAreListed
present_listed h keys ascending each =
    ascending_is_unique keys (keys_present h) ascending (present_ascend h)
    (λ key. ((λ has. (present_each h key).1 ((each key).0 has)), (λ has. (each key).1 ((present_each h key).0 has))))
