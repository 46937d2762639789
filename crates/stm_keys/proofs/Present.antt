-- The list of present keys.
use Rattle.std.proofs.Common.{◌≡◌, ℕ, Bool, true, false, List, [], ◌∷◌, ◌++◌, map, Option, None, refl, sym, ◌∙◌, ap, ◌||◌, arith}
use Rattle.std.specs.Prelude.{bytes_eq}
use Rattle.std.specs.List.{IsDistinct, AllByRecursion, list_any}
use Rattle.std.specs.Map.{lookup, keys_of}
use Rattle.std.proofs.lemmas.Slice.Eq.{bytes_eq-Decides}
use Rattle.std.proofs.lemmas.Bool.Decides.{nat_tests}
use Rattle.stm_history.specs.declared.key_state.KeyState.{KeyState}
use Rattle.stm_keys.specs.Chains.{present_among, with_state}

-- a key that comes without a state adds nothing
with_nothing : (s : Option KeyState) (key : List ℕ) (present : List (List ℕ × KeyState)) → s ≡ None → with_state key s present ≡ present
with_nothing s key present none = ap (λ o. with_state key o present) none

pub present_push : (state : List ℕ → Option KeyState) (keys : List (List ℕ)) (key : List ℕ) → state key ≡ None →
    present_among state (keys ++ key ∷ []) ≡ present_among state keys
present_push state [] key none = with_nothing (state key) key [] none
present_push state (k ∷ keys) key none = ap (with_state k (state k)) (present_push state keys key none)

-- a look-up in the list of present keys finds the state of the key
found_present : (state : List ℕ → Option KeyState) (key k : List ℕ) (rest : List (List ℕ × KeyState)) (b : Bool) → bytes_eq key k ≡ b →
    (s : Option KeyState) → state k ≡ s → (b ≡ true → s ≡ None → lookup (bytes_eq key) rest ≡ None) → (b ≡ false → lookup (bytes_eq key) rest ≡ state key) →
    lookup (bytes_eq key) (with_state k s rest) ≡ state key
found_present state key k rest b same s is none others = grind (arith, nat_tests, bytes_eq-Decides)

pub present_found : (state : List ℕ → Option KeyState) (key : List ℕ) (keys : List (List ℕ)) → (list_any (bytes_eq key) keys ≡ false → state key ≡ None) →
    lookup (bytes_eq key) (present_among state keys) ≡ state key
present_found state key [] absent = sym (absent refl)
present_found state key (k ∷ keys) absent =
    found_present state key k (present_among state keys) (bytes_eq key k) refl (state k) refl
    (λ same none.
    let gone : state key ≡ None = ap state ((bytes_eq-Decides key k).0 same) ∙ none in
    present_found state key keys (λ others. gone) ∙ gone)
    (λ apart. present_found state key keys (λ others. absent (ap (λ b. b || list_any (bytes_eq key) keys) apart ∙ others)))

-- the present keys are distinct where the keys are
all_with : (P : List ℕ → Type 0) (k : List ℕ) (s : Option KeyState) (present : List (List ℕ × KeyState)) → P k → AllByRecursion P (keys_of present) →
    AllByRecursion P (keys_of (with_state k s present))
all_with P k s present one all = grind (arith, nat_tests)

all_present : (P : List ℕ → Type 0) (state : List ℕ → Option KeyState) (keys : List (List ℕ)) → AllByRecursion P keys →
    AllByRecursion P (keys_of (present_among state keys))
all_present P state [] all = tt
all_present P state (k ∷ keys) all = all_with P k (state k) (present_among state keys) all.0 (all_present P state keys all.1)

distinct_with : (k : List ℕ) (s : Option KeyState) (present : List (List ℕ × KeyState)) → AllByRecursion (λ l. bytes_eq k l ≡ false) (keys_of present) →
    IsDistinct bytes_eq (keys_of present) → IsDistinct bytes_eq (keys_of (with_state k s present))
unfolding IsDistinct
distinct_with k s present apart rest = grind (arith, nat_tests)

pub distinct_present : (state : List ℕ → Option KeyState) (keys : List (List ℕ)) → IsDistinct bytes_eq keys →
    IsDistinct bytes_eq (keys_of (present_among state keys))
unfolding IsDistinct
distinct_present state [] h = tt
distinct_present state (k ∷ keys) h = grind (arith, nat_tests, distinct_with, all_present, distinct_present state keys h.1)

-- a text that is none of the keys is not found
not_here : {K X : Type 0} (text : K → List ℕ) (key : List ℕ) (e : K × X) (es : List (K × X)) (b : Bool) → bytes_eq key (text e.0) ≡ b →
    (list_any (bytes_eq key) (map text (keys_of es)) ≡ false → lookup (λ k. bytes_eq key (text k)) es ≡ None) →
    bytes_eq key (text e.0) || list_any (bytes_eq key) (map text (keys_of es)) ≡ false → lookup (λ k. bytes_eq key (text k)) (e ∷ es) ≡ None
not_here text key e es b same rest none = grind (arith, nat_tests)

pub not_found : {K X : Type 0} (text : K → List ℕ) (key : List ℕ) (es : List (K × X)) → list_any (bytes_eq key) (map text (keys_of es)) ≡ false →
    lookup (λ k. bytes_eq key (text k)) es ≡ None
not_found text key [] none = refl
not_found text key (e ∷ es) none = not_here text key e es (bytes_eq key (text e.0)) refl (not_found text key es) none

-- keys that differ by their bytes have texts that differ
apart_texts : {K : Type 0} (text : K → List ℕ) (k : K) (ks : List K) → AllByRecursion (λ l. bytes_eq (text k) (text l) ≡ false) ks →
    AllByRecursion (λ l. bytes_eq (text k) l ≡ false) (map text ks)
apart_texts text k [] h = tt
apart_texts text k (l ∷ ks) h = (h.0, apart_texts text k ks h.1)

pub distinct_texts : {K : Type 0} (text : K → List ℕ) (ks : List K) → IsDistinct (λ k l. bytes_eq (text k) (text l)) ks →
    IsDistinct bytes_eq (map text ks)
unfolding IsDistinct
distinct_texts text [] h = tt
distinct_texts text (k ∷ ks) h = (apart_texts text k ks h.0, distinct_texts text ks h.1)
