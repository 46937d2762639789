-- The states of keys, listed: each key is found, and two lists in which the same is found are one.
use Rattle.std.proofs.Common.{◌≡◌, ℕ, Bool, true, false, List, [], ◌∷◌, Option, Some, None, refl, sym, ◌∙◌, ap, cond, ◌||◌}
use Rattle.std.specs.Prelude.{bytes_eq, T}
use Rattle.std.specs.List.{list_any}
use Rattle.std.specs.Ordering.{nat_cmp}
use Rattle.std.specs.Cmp.Lexicographic.{slice_cmp, nat_list_cmp_total}
use Rattle.std.specs.FinMap as finmap
use Rattle.std.specs.FinMap.{find, is_sorted}
use Rattle.std.specs.FinMap.Entries.{find-put, is_sorted-put, same_entries}
use Rattle.std.proofs.lemmas.Map.Text.{is_eq-slice_cmp}
use Rattle.std.proofs.lemmas.Slice.Eq.{bytes_eq-Decides}
use Rattle.stm_history.specs.declared.key_state.KeyState.{KeyState}
use Rattle.stm_history.specs.Opening.{States}
use Rattle.stm_history.specs.Cut.{with_present, states_of}

-- what is found of a key among states, one of which was added
found_with : (key k : List ℕ) (s : Option KeyState) (states : States) (state : List ℕ → Option KeyState) (b : Bool) → bytes_eq key k ≡ b → state k ≡ s →
    (b ≡ true → s ≡ None → find (slice_cmp nat_cmp) key states ≡ None) → (b ≡ false → find (slice_cmp nat_cmp) key states ≡ state key) →
    find (slice_cmp nat_cmp) key (with_present k s states) ≡ state key
found_with key k None states state true same is none others = none refl refl ∙ sym (ap state ((bytes_eq-Decides key k).0 same) ∙ is)
found_with key k None states state false same is none others = others refl
found_with key k (Some s) states state true same is none others =
    find-put (slice_cmp nat_cmp) nat_list_cmp_total key k s states
    ∙ ap (λ b. cond b (Some s) (find (slice_cmp nat_cmp) key states)) (is_eq-slice_cmp key k ∙ same)
    ∙ sym (ap state ((bytes_eq-Decides key k).0 same) ∙ is)
found_with key k (Some s) states state false same is none others =
    find-put (slice_cmp nat_cmp) nat_list_cmp_total key k s states
    ∙ ap (λ b. cond b (Some s) (find (slice_cmp nat_cmp) key states)) (is_eq-slice_cmp key k ∙ same)
    ∙ others refl

-- a key is found with its state, where every other key is absent
pub state_found : (state : List ℕ → Option KeyState) (key : List ℕ) (keys : List (List ℕ)) → (list_any (bytes_eq key) keys ≡ false → state key ≡ None) →
    find (slice_cmp nat_cmp) key (states_of state keys) ≡ state key
state_found state key [] absent = sym (absent refl)
state_found state key (k ∷ keys) absent =
    found_with key k (state k) (states_of state keys) state (bytes_eq key k) refl refl
    (λ same none.
    let gone : state key ≡ None = ap state ((bytes_eq-Decides key k).0 same) ∙ none in
    state_found state key keys (λ others. gone) ∙ gone)
    (λ apart. state_found state key keys (λ others. absent (ap (λ b. b || list_any (bytes_eq key) keys) apart ∙ others)))

sorted_with : (key : List ℕ) (s : Option KeyState) (states : States) → T (is_sorted (slice_cmp nat_cmp) states) →
    T (is_sorted (slice_cmp nat_cmp) (with_present key s states))
sorted_with key None states sorted = sorted
sorted_with key (Some s) states sorted = is_sorted-put (slice_cmp nat_cmp) nat_list_cmp_total key s states sorted

states_sorted : (state : List ℕ → Option KeyState) (keys : List (List ℕ)) → T (is_sorted (slice_cmp nat_cmp) (states_of state keys))
states_sorted state [] = tt
states_sorted state (key ∷ keys) = sorted_with key (state key) (states_of state keys) (states_sorted state keys)

-- two lists of states in which the same is found are one
pub same_states : (s t : List ℕ → Option KeyState) (keys others : List (List ℕ)) →
    ((key : List ℕ) → find (slice_cmp nat_cmp) key (states_of s keys) ≡ find (slice_cmp nat_cmp) key (states_of t others)) → states_of s keys ≡ states_of t others
same_states s t keys others same =
    same_entries (slice_cmp nat_cmp) nat_list_cmp_total (finmap.slice_cmp-IsAntisymmetric finmap.nat_cmp-IsAntisymmetric)
    (states_of s keys) (states_of t others) (states_sorted s keys) (states_sorted t others) same
