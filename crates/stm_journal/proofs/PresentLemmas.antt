-- The keys that a store lists, once they are sorted.
use Rattle.std.proofs.Common.{◌≡◌, ℕ, ◌+◌, ◌||◌, List, [], ◌∷◌, ◌++◌, map, take, Some, is_some, refl, sym, subst, ◌∙◌, ap, arith}
use Rattle.std.proofs.Common.{String, string_bytes, IsSorted, Contains, true}
use Rattle.std.specs.Prelude.{slice_get}
use Rattle.std.proofs.lemmas.List.{take_more}
use Rattle.std.proofs.lemmas.Option.{get_or_from_slice_get, slice_get_within}
use Rattle.std.proofs.lemmas.List.Sorted.{IsPermutation-map, Contains-permutation, IsPermutation-sym}
use Rattle.std.proofs.lemmas.Map.Made.{is_some-lookup}
use Rattle.std.proofs.lemmas.Map.Views.{list_any-from_Contains, Contains-from_any}
use Rattle.std.proofs.lemmas.Slice.Eq.{bytes_eq-Decides}
use Rattle.std.specs.Cmp.{IsEquivalence, both_ways}
use Rattle.std.specs.List.{IsDistinct, list_any}
use Rattle.std.specs.List.Sorted.{IsPermutation}
use Rattle.std.specs.Map.{keys_of}
use Rattle.std.specs.Str.{bytes_eq}
use Rattle.std.specs.String.{string_cmp}
use Rattle.std.proofs.lemmas.Bool.Decides.{nat_tests}
use Rattle.stm_history.specs.declared.key_state.KeyState.{KeyState}
use Rattle.stm_history.specs.History.{History, key_now}
use Rattle.stm_leases.proofs.Ordered.{sorted-ascends}
use Rattle.stm_keys.specs.Keys.{ListsPresent}
use Rattle.stm_txn.specs.PresentKeys.{keys_present}
use Rattle.stm_txn.proofs.Naming.{present_listed}
use Rattle.stm_journal.specs.PresentKeys.{is_listed, ArePresent}

flipped : (x y : List ℕ) → bytes_eq x y ≡ bytes_eq y x
flipped x y = grind (arith, nat_tests, bytes_eq-Decides)

same_bytes : IsEquivalence bytes_eq
same_bytes = grind (arith, nat_tests, bytes_eq-Decides, flipped)

-- a key is among these exactly where they contain it
listed_any : (key : List ℕ) (keys : List (List ℕ)) → is_listed key keys ≡ list_any (bytes_eq key) keys
listed_any key [] = refl
listed_any key (k ∷ ks) = ap (λ b. b || is_listed key ks) (flipped k key) ∙ ap (λ b. bytes_eq key k || b) (listed_any key ks)

listed_from : (key : List ℕ) (keys : List (List ℕ)) → Contains keys key → is_listed key keys ≡ true
listed_from key keys among = listed_any key keys ∙ list_any-from_Contains same_bytes key keys among

among_from : (key : List ℕ) (keys : List (List ℕ)) → is_listed key keys ≡ true → Contains keys key
among_from key keys is = Contains-from_any (λ x y same. (bytes_eq-Decides x y).0 same) key keys (sym (listed_any key keys) ∙ is)

-- ascending keys that are those that are present are the list that is computed
present_computed : (h : History) (keys : List (List ℕ)) → ArePresent h keys → keys ≡ keys_present h
present_computed h keys are = grind (arith, nat_tests, present_listed, listed_from, among_from)

-- a key is present exactly where the store lists it
listed_present : (h : History) (present : List (List ℕ × KeyState)) (key : List ℕ) → ListsPresent h present →
    is_some (key_now h key) ≡ is_listed key (keys_of present)
listed_present h present key lists = grind (arith, nat_tests, is_some-lookup, listed_any)

-- one more key is listed
keys_joined : (front back : List (List ℕ × KeyState)) → keys_of (front ++ back) ≡ keys_of front ++ keys_of back
keys_joined [] back = refl
keys_joined (p ∷ front) back = ap (λ (keys : List (List ℕ)). p.0 ∷ keys) (keys_joined front back)

pub keys_more : (listed : List (List ℕ × KeyState)) (i : ℕ) (p : List ℕ × KeyState) → slice_get listed i ≡ Some p →
    keys_of (take i listed) ++ p.0 ∷ [] ≡ keys_of (take (i + 1) listed)
keys_more listed i p is =
    sym (keys_joined (take i listed) (p ∷ []))
    ∙ ap (λ (x : List ℕ × KeyState). keys_of (take i listed ++ x ∷ [])) (sym (get_or_from_slice_get listed i p p is))
    ∙ ap keys_of (sym (take_more listed i p (slice_get_within listed i p is)))

module _ {A : Type 0} where
  pub sorted_present : (h : History) (present : List (List ℕ × KeyState)) (texts sorted : List (String A)) → ListsPresent h present →
      map string_bytes texts ≡ keys_of present → IsPermutation texts sorted → IsSorted string_cmp sorted → ArePresent h (map string_bytes sorted)
  sorted_present h present texts sorted lists are moved up = record {
    ascending = sorted-ascends texts sorted moved up (subst (IsDistinct bytes_eq) (sym are) lists.once);
    each = λ key.
        both_ways (is_listed key (map string_bytes sorted)) (is_some (key_now h key))
        (λ listed. listed_present h present key lists ∙ listed_from key (keys_of present) (unsorted key (among_from key (map string_bytes sorted) listed)))
        (λ is. listed_from key (map string_bytes sorted)
        (sorted_again key (among_from key (keys_of present) (sym (listed_present h present key lists) ∙ is))));
  }
    where
      permuted : IsPermutation (map string_bytes texts) (map string_bytes sorted)
      permuted = IsPermutation-map string_bytes texts sorted moved

      unsorted : (key : List ℕ) → Contains (map string_bytes sorted) key → Contains (keys_of present) key
      unsorted key among =
          subst (λ (ks : List (List ℕ)). Contains ks key) are
          (Contains-permutation (map string_bytes sorted) (map string_bytes texts) key (IsPermutation-sym _ _ permuted) among)

      sorted_again : (key : List ℕ) → Contains (keys_of present) key → Contains (map string_bytes sorted) key
      sorted_again key among =
          Contains-permutation (map string_bytes texts) (map string_bytes sorted) key permuted
          (subst (λ (ks : List (List ℕ)). Contains ks key) (sym are) among)

  pub sorted_computed : (h : History) (present : List (List ℕ × KeyState)) (texts sorted : List (String A)) → ListsPresent h present →
      map string_bytes texts ≡ keys_of present → IsPermutation texts sorted → IsSorted string_cmp sorted → map string_bytes sorted ≡ keys_present h
  sorted_computed h present texts sorted lists are moved up =
      present_computed h (map string_bytes sorted) (sorted_present h present texts sorted lists are moved up)
