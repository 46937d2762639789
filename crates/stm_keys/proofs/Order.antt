-- The order of the chains: those of present keys stand first.
use Rattle.std.proofs.Common.{◌≡◌, ℕ, ◌+◌, ◌≤◌, ◌<◌, Bool, true, false, List, [], ◌∷◌, ◌++◌, length, map, Option, Some, None, suc, zero, refl, sym, ◌∙◌, ap}
use Rattle.std.proofs.Common.{arith, cond, is_some, eqb-true, slice_get, get_or, swap, option_map, IsPermutation, inl, inr}
use Rattle.std.specs.Prelude.{bytes_eq, nat_eq, nat_lt, string_bytes, string_eq, ◌⊎◌}
use Rattle.std.specs.String.{string_eq_equiv}
use Rattle.std.specs.declared.string.String.{String}
use Rattle.std.specs.HashMap.{HashMap}
use Rattle.std.specs.List.{IsDistinct}
use Rattle.std.specs.Map.{keys_of}
use Rattle.std.proofs.lemmas.Bool.{cases_lt, eqb-false, lt-ltb, le-ltb}
use Rattle.std.proofs.lemmas.Bool.Decides.{nat_tests}
use Rattle.std.proofs.lemmas.Cmp.{nat_list_eq_equiv}
use Rattle.std.proofs.lemmas.List.{length-map, length-append}
use Rattle.std.proofs.lemmas.List.Edits.{length-swap}
use Rattle.std.proofs.lemmas.Map.Entries.{length-keys_of, hash_map_get_place}
use Rattle.std.proofs.lemmas.Map.Keys.{apart_from_distinct}
use Rattle.std.proofs.lemmas.Option.{slice_get_within, slice_get-get_or, get_or_from_slice_get}
use Rattle.std.proofs.lemmas.Slice.Eq.{bytes_eq-Decides}
use Rattle.indexmap.proofs.ReorderLemmas.{exchange, exchange-within, get_or-swap}
use Rattle.indexmap.proofs.MapLemmas.{lookup_permutation}
use Rattle.std.proofs.lemmas.Map.Text.{hash_map_updates_text}
use Rattle.indexmap.proofs.CallerLemmas.{updates-with_value_at}
use Rattle.indexmap.specs.IndexMap.{get_by_text, with_value_at, IsUnique}
use Rattle.stm_history.specs.declared.key_state.KeyState.{KeyState}
use Rattle.stm_keys.specs.declared.event.Event.{Event}
use Rattle.stm_keys.specs.Events.{key_of_event, event_about, is_put}
use Rattle.stm_keys.specs.Chains.{Versions, no_versions, StandFirst, KeepsPresent, is_left, names_of, present_among, with_state}
use Rattle.stm_keys.proofs.Present.{present_push}
use Rattle.stm_keys.proofs.Steps.{text_at}

-- as many names as entries
pub names_long : {Y X S : Type 0} (m : HashMap (String Y) X S) → length (names_of m) ≡ length m.entries
names_long m = length-map (keys_of m.entries) string_bytes ∙ length-keys_of m.entries

-- the key at an index, its chain, and the chains once another one stands there
module _ {Y X S : Type 0} (m : HashMap (String Y) X S) (index : ℕ) (k : String Y) (v : X) (unique : IsUnique string_eq m)
    (at : slice_get m.entries index ≡ Some (k, v)) where
  pub named_at : slice_get (names_of m) index ≡ Some (string_bytes k)
  named_at = text_at string_bytes m.entries index ∙ ap (option_map (λ e. string_bytes e.0)) at

  pub found_at_index : get_by_text m (string_bytes k) ≡ Some v
  found_at_index = hash_map_get_place string_eq_equiv m index k v unique at

  pub is_the_key : (key : List ℕ) → slice_get (names_of m) index ≡ Some key → string_bytes k ≡ key
  is_the_key key named = grind (arith, nat_tests, named_at)

  pub found_under : (key : List ℕ) → slice_get (names_of m) index ≡ Some key → get_by_text m key ≡ Some v
  found_under key named = ap (get_by_text m) (sym (is_the_key key named)) ∙ found_at_index

  pub written_at : (w : X) (key : List ℕ) → slice_get (names_of m) index ≡ Some key → (q : List ℕ) →
      get_by_text (with_value_at m index w) q ≡ cond (bytes_eq key q) (Some w) (get_by_text m q)
  written_at w key named q =
      hash_map_updates_text (string_bytes k) m (with_value_at m index w) (Some w) (updates-with_value_at m index w string_eq_equiv unique k v at) q
      ∙ ap (λ (l : List ℕ). cond (bytes_eq l q) (Some w) (get_by_text m q)) (is_the_key key named)

-- a key stands at a place, and nowhere else
abbrev pub StandsAt : List ℕ → ℕ → List (List ℕ) → Type 0
StandsAt key index keys = (place : ℕ) (k : List ℕ) → slice_get keys place ≡ Some k → bytes_eq key k ≡ nat_eq place index

apart : (keys : List (List ℕ)) (i j : ℕ) (a b : List ℕ) → IsDistinct bytes_eq keys → slice_get keys i ≡ Some a → slice_get keys j ≡ Some b → i < j →
    bytes_eq a b ≡ false
apart keys i j a b distinct first second less =
    sym (ap (λ (k : List ℕ). bytes_eq k (get_or keys j a)) (get_or_from_slice_get keys i a a first) ∙ ap (bytes_eq a) (get_or_from_slice_get keys j b a second))
    ∙ apart_from_distinct bytes_eq keys i j a distinct less (slice_get_within keys j b second)

pub stands_at : (keys : List (List ℕ)) (index : ℕ) (key : List ℕ) → IsDistinct bytes_eq keys → slice_get keys index ≡ Some key → StandsAt key index keys
stands_at keys index key distinct at place k is = grind (arith, nat_tests, eqb-true, bytes_eq-Decides, cases_lt, apart, eqb-false)

-- two keys changed places
abbrev pub Exchanged : ℕ → ℕ → List (List ℕ) → List (List ℕ) → Type 0
Exchanged a b old new = (place : ℕ) (k : List ℕ) → slice_get new place ≡ Some k → slice_get old (exchange a b place) ≡ Some k

exchanged_entry : {K X : Type 0} (es : List (K × X)) (a b place : ℕ) (e : K × X) → a < length es → b < length es → slice_get (swap es a b) place ≡ Some e →
    slice_get es (exchange a b place) ≡ Some e
exchanged_entry es a b place e first second is =
    let within : place < length es = omega (arith, slice_get_within (swap es a b) place e is, length-swap es a b) in
    slice_get-get_or es (exchange a b place) e (exchange-within a b (length es) place first second within)
    ∙ ap Some (sym (get_or-swap es a b e first second place) ∙ get_or_from_slice_get (swap es a b) place e e is)

pub exchanged : {K X : Type 0} (text : K → List ℕ) (es : List (K × X)) (a b : ℕ) → a < length es → b < length es →
    Exchanged a b (map text (keys_of es)) (map text (keys_of (swap es a b)))
exchanged {K} {X} text es a b first second place k is = grind (arith, nat_tests, text_at, exchange, exchanged_entry)

pub swapped : {Y X S : Type 0} (m n : HashMap (String Y) X S) (a b : ℕ) → a < length m.entries → b < length m.entries → n.entries ≡ swap m.entries a b →
    Exchanged a b (names_of m) (names_of n) × (length (names_of n) ≡ length (names_of m))
swapped m n a b first second is = grind (arith, nat_tests, exchanged, names_long, length-swap)

-- where a key that comes in and one that is taken out stand
in_place : (place index n : ℕ) → n ≤ index → cond (nat_eq (exchange index n place) index) true (nat_lt (exchange index n place) n) ≡ nat_lt place (n + 1)
in_place place index n le = grind (arith, nat_tests)

in_already : (place index n : ℕ) → index < n → cond (nat_eq place index) true (nat_lt place n) ≡ nat_lt place n
in_already place index n less = grind (arith, nat_tests)

out_of_place : (place index n : ℕ) → index ≤ n → cond (nat_eq (exchange index n place) index) false (nat_lt (exchange index n place) (n + 1)) ≡ nat_lt place n
out_of_place place index n le = grind (arith, nat_tests)

out_already : (place index n : ℕ) → n ≤ index → cond (nat_eq place index) false (nat_lt place n) ≡ nat_lt place n
out_already place index n le = grind (arith, nat_tests)

-- a key that comes in, or is taken out
pub comes_in : (p : List ℕ → Bool) (index n : ℕ) (key : List ℕ) (old new : List (List ℕ)) → StandsAt key index old → Exchanged index n old new →
    length new ≡ length old → n ≤ index → index < length old → StandFirst p n old → StandFirst (λ k. cond (bytes_eq key k) true (p k)) (n + 1) new
comes_in p index n key old new at moved long le within first = record {
  within = omega (arith, long);
  each = λ place k is.
      ap (λ b. cond b true (p k)) (at (exchange index n place) k (moved place k is))
      ∙ ap (cond (nat_eq (exchange index n place) index) true) (first.each (exchange index n place) k (moved place k is))
      ∙ in_place place index n le;
}

pub is_in : (p : List ℕ → Bool) (index n : ℕ) (key : List ℕ) (keys : List (List ℕ)) → StandsAt key index keys → index < n → StandFirst p n keys →
    StandFirst (λ k. cond (bytes_eq key k) true (p k)) n keys
is_in p index n key keys at less first = record {
  within = first.within;
  each = λ place k is.
      ap (λ b. cond b true (p k)) (at place k is) ∙ ap (cond (nat_eq place index) true) (first.each place k is) ∙ in_already place index n less;
}

pub goes_out : (p : List ℕ → Bool) (index n : ℕ) (key : List ℕ) (old new : List (List ℕ)) → StandsAt key index old → Exchanged index n old new →
    length new ≡ length old → index ≤ n → StandFirst p (n + 1) old → StandFirst (λ k. cond (bytes_eq key k) false (p k)) n new
goes_out p index n key old new at moved long le first = record {
  within = omega (arith, long, first.within);
  each = λ place k is.
      ap (λ b. cond b false (p k)) (at (exchange index n place) k (moved place k is))
      ∙ ap (cond (nat_eq (exchange index n place) index) false) (first.each (exchange index n place) k (moved place k is))
      ∙ out_of_place place index n le;
}

pub is_out : (p : List ℕ → Bool) (index n : ℕ) (key : List ℕ) (keys : List (List ℕ)) → StandsAt key index keys → n ≤ index → StandFirst p n keys →
    StandFirst (λ k. cond (bytes_eq key k) false (p k)) n keys
is_out p index n key keys at le first = record {
  within = first.within;
  each = λ place k is.
      ap (λ b. cond b false (p k)) (at place k is) ∙ ap (cond (nat_eq place index) false) (first.each place k is) ∙ out_already place index n le;
}

-- a map in another order finds what it found
pub same_found : {Y X S : Type 0} (m n : HashMap (String Y) X S) → IsPermutation m.entries n.entries → IsDistinct string_eq (keys_of n.entries) →
    (k : List ℕ) → get_by_text n k ≡ get_by_text m k
same_found m n moves distinct k =
    lookup_permutation string_eq_equiv m.entries n.entries moves distinct (λ name. bytes_eq k (string_bytes name))
    (λ x y. nat_list_eq_equiv.congr k (string_bytes x) (string_bytes y))

-- the same for an equal presence
pub same_presence : (p q : List ℕ → Bool) (n : ℕ) (keys : List (List ℕ)) → ((k : List ℕ) → q k ≡ p k) → StandFirst p n keys → StandFirst q n keys
same_presence p q n keys same first = record { within = first.within; each = λ place k is. same k ∙ first.each place k is }

-- an absent key that comes last
push_at : {X : Type 0} (xs : List X) (y x : X) (place : ℕ) → slice_get (xs ++ y ∷ []) place ≡ Some x →
    ((place < length xs) × (slice_get xs place ≡ Some x)) ⊎ ((length xs ≤ place) × (y ≡ x))
push_at [] y x zero is = inr (omega arith, cc)
push_at [] y x (suc place) is = absurd (cc)
push_at (z ∷ xs) y x zero is = inl (omega arith, is)
push_at (z ∷ xs) y x (suc place) is = grind (arith, nat_tests, push_at xs y x place is)

pub first_push : (p : List ℕ → Bool) (n : ℕ) (keys : List (List ℕ)) (key : List ℕ) → p key ≡ false → StandFirst p n keys → StandFirst p n (keys ++ key ∷ [])
first_push p n keys key absent first = grind (arith, nat_tests, length-append, push_at, le-ltb)

-- keys that stay as they are, and more keys after more keys
pub keeps_same : (versions_at : List ℕ → Versions) (old new : List (List ℕ)) → new ≡ old → KeepsPresent versions_at old new
keeps_same versions_at old new same = grind (arith, nat_tests)

pub keeps_push : (versions_at : List ℕ → Versions) (old : List (List ℕ)) (key : List ℕ) → versions_at key ≡ no_versions → KeepsPresent versions_at old (old ++ key ∷ [])
keeps_push versions_at old key none = record {
  listed = λ state absent. present_push state old key (absent key none);
  first = λ p n absent first. first_push p n old key (absent key none) first;
  longer = omega (arith, length-append old (key ∷ []));
}

pub keeps_more : (versions_at again : List ℕ → Versions) (a b c : List (List ℕ)) → ((key : List ℕ) → again key ≡ versions_at key) → KeepsPresent versions_at a b →
    KeepsPresent again b c → KeepsPresent versions_at a c
keeps_more versions_at again a b c same one two = record {
  listed = λ state absent. two.listed state (λ key none. absent key (sym (same key) ∙ none)) ∙ one.listed state absent;
  first = λ p n absent first. two.first p n (λ key none. absent key (sym (same key) ∙ none)) (one.first p n absent first);
  longer = omega (arith, one.longer, two.longer);
}

-- what is left after one event, and after the rest of them
pub left_after : (e : Event) (es : List Event) (p q : List ℕ → Bool) → event_about (key_of_event e) es ≡ None →
    ((k : List ℕ) → is_left (event_about k (e ∷ es)) (p k) ≡ q k) →
    (k : List ℕ) → is_left (event_about k es) (cond (bytes_eq (key_of_event e) k) (is_put e) (p k)) ≡ q k
left_after e es p q alone reported k = grind (arith, nat_tests, bytes_eq-Decides)

-- the present keys, counted and by their places
one_less : (place n : ℕ) → nat_lt (suc place) (suc n) ≡ nat_lt place n
one_less place n = grind (arith, nat_tests)

first_below : (n : ℕ) → nat_lt 0 (suc n) ≡ true
first_below n = lt-ltb 0 (suc n) (omega arith)

below_none : (place : ℕ) → nat_lt (suc place) 0 ≡ nat_lt place 0
below_none place = grind (arith, nat_tests)

pub tail_first : (state : List ℕ → Option KeyState) (n : ℕ) (k : List ℕ) (keys : List (List ℕ)) → StandFirst (λ key. is_some (state key)) (suc n) (k ∷ keys) →
    StandFirst (λ key. is_some (state key)) n keys
tail_first state n k keys first =
    record { within = omega (arith, first.within); each = λ place key is. first.each (suc place) key is ∙ one_less place n }

none_first : (state : List ℕ → Option KeyState) (k : List ℕ) (keys : List (List ℕ)) → StandFirst (λ key. is_some (state key)) 0 (k ∷ keys) →
    StandFirst (λ key. is_some (state key)) 0 keys
none_first state k keys first = record { within = omega arith; each = λ place key is. first.each (suc place) key is ∙ below_none place }

count_none : (k : List ℕ) (s : Option KeyState) (rest : List (List ℕ × KeyState)) → is_some s ≡ false → length rest ≡ 0 → length (with_state k s rest) ≡ 0
count_none k s rest is none = grind (arith, nat_tests)

count_one : (k : List ℕ) (s : Option KeyState) (rest : List (List ℕ × KeyState)) (n : ℕ) → is_some s ≡ true → length rest ≡ n →
    length (with_state k s rest) ≡ suc n
count_one k s rest n is count = grind (arith, nat_tests)

pub present_count : (state : List ℕ → Option KeyState) (n : ℕ) (keys : List (List ℕ)) → StandFirst (λ key. is_some (state key)) n keys →
    length (present_among state keys) ≡ n
present_count state zero [] first = refl
present_count state (suc n) [] first = absurd (omega (arith, first.within))
present_count state zero (k ∷ keys) first =
    count_none k (state k) (present_among state keys) (first.each 0 k refl) (present_count state zero keys (none_first state k keys first))
present_count state (suc n) (k ∷ keys) first =
    count_one k (state k) (present_among state keys) n (first.each 0 k refl ∙ first_below n) (present_count state n keys (tail_first state n k keys first))

at_later : (k : List ℕ) (s : Option KeyState) (rest : List (List ℕ × KeyState)) (place : ℕ) (x : List ℕ × KeyState) → is_some s ≡ true →
    slice_get rest place ≡ Some x → slice_get (with_state k s rest) (suc place) ≡ Some x
at_later k s rest place x is at = grind (arith, nat_tests)

pub present_at : (state : List ℕ → Option KeyState) (n : ℕ) (keys : List (List ℕ)) (place : ℕ) (key : List ℕ) (s : KeyState) →
    StandFirst (λ key. is_some (state key)) n keys → place < n → slice_get keys place ≡ Some key → state key ≡ Some s →
    slice_get (present_among state keys) place ≡ Some (key, s)
present_at state n [] place key s first less at is = absurd (cc)
present_at state zero (k ∷ keys) place key s first less at is = absurd (omega (arith, less))
present_at state (suc n) (k ∷ keys) zero key s first less at is =
    let same : k ≡ key = cc in
    ap (λ o. slice_get (with_state k o (present_among state keys)) 0) (ap state same ∙ is) ∙ ap (λ (l : List ℕ). Some (l, s)) same
present_at state (suc n) (k ∷ keys) (suc place) key s first less at is =
    at_later k (state k) (present_among state keys) place (key, s) (first.each 0 k refl ∙ first_below n)
    (present_at state n keys place key s (tail_first state n k keys first) (omega (arith, less)) at is)

-- a key that stands below the count is present
pub below_present : (p : List ℕ → Bool) (n : ℕ) (keys : List (List ℕ)) (place : ℕ) (key : List ℕ) → StandFirst p n keys → place < n →
    slice_get keys place ≡ Some key →
    p key ≡ true
below_present p n keys place key first less at = first.each place key at ∙ lt-ltb place n less

-- after one event a key is as the event leaves it, or as it was
pub left_only : (e : Event) (k : List ℕ) (before : Bool) → is_left (event_about k (e ∷ [])) before ≡ cond (bytes_eq (key_of_event e) k) (is_put e) before
left_only e k before = grind (arith, nat_tests)
