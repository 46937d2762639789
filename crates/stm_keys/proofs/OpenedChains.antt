-- The chains of a store that opens with keys: each has what its key was, and no version.
use Rattle.std.proofs.Common.{◌≡◌, ℕ, ◌<◌, ◌≤◌, Bool, true, false, List, [], ◌∷◌, ◌++◌, length, Option, Some, None, zero, suc, refl, sym, ◌∙◌, ap, subst, cond, is_some}
use Rattle.std.proofs.Common.{arith, ◌||◌, ◌+◌, reverse}
use Rattle.std.specs.Prelude.{bytes_eq, slice_get, string_bytes, T}
use Rattle.std.specs.List.{list_any}
use Rattle.std.specs.Ordering.{nat_cmp, eq_by_cmp}
use Rattle.std.specs.Cmp.Lexicographic.{slice_cmp, nat_list_cmp_total}
use Rattle.std.specs.FinMap as finmap
use Rattle.std.specs.FinMap.{find, is_sorted}
use Rattle.std.specs.FinMap.Entries.{is_some-find, is_sorted-put, find-append, same_entries}
use Rattle.std.specs.HashMap.{HashMap}
use Rattle.std.specs.Map.{keys_of}
use Rattle.std.specs.declared.string.String.{String}
use Rattle.std.proofs.lemmas.Bool.{lt-ltb, Decides.nat_tests}
use Rattle.std.proofs.Math.Bool.{or-true}
use Rattle.std.proofs.lemmas.Slice.Eq.{bytes_eq-Decides}
use Rattle.std.proofs.lemmas.Cmp.{nat_list_eq_equiv}
use Rattle.std.proofs.lemmas.Map.Text.{is_eq-slice_cmp}
use Rattle.std.proofs.lemmas.Option.{slice_get_within}
use Rattle.indexmap.specs.IndexMap.{get_by_text}
use Rattle.stm_history.specs.declared.key_state.KeyState.{KeyState}
use Rattle.stm_history.specs.Opening.{Opening, States, opened_state}
use Rattle.stm_history.specs.Cut.{with_present, states_of}
use Rattle.stm_history.specs.declared.revisions.TheConstants.{HIGHEST_REVISION}
use Rattle.stm_history.specs.History.{History, key_after}
use Rattle.stm_keys.specs.declared.event.Event.{Event}
use Rattle.stm_keys.specs.Keys.{IsKept, changes_of}
use Rattle.stm_keys.specs.CanOpen.{can_open}
use Rattle.stm_keys.specs.Chains.{Versions, Chain, versions_in, StandFirst, names_of, opening_of}
use Rattle.stm_keys.proofs.OpeningLaws.{can_open_sorted, can_open_found}
use Rattle.stm_keys.proofs.Present.{not_found}
use Rattle.stm_keys.proofs.Walked.{before_found}

-- the versions of a key that was in this state before any revision, or absent
abbrev pub versions_before : Option KeyState → Versions
versions_before s = record { before = s; numbers = [] }

same_choice : (key : List ℕ) → eq_by_cmp (slice_cmp nat_cmp) key ≡ bytes_eq key
same_choice key = λ i k. is_eq-slice_cmp key k i

-- a key that is not found among states is none of their keys
not_named : (key : List ℕ) (states : States) → find (slice_cmp nat_cmp) key states ≡ None → list_any (bytes_eq key) (keys_of states) ≡ false
not_named key states none =
    ap (λ p. list_any p (keys_of states)) (sym (same_choice key)) ∙ sym (is_some-find (slice_cmp nat_cmp) key states) ∙ ap is_some none

-- so it has no chain where the chains are of these keys
pub no_chain : {Y X S : Type 0} (m : HashMap (String Y) X S) (key : List ℕ) (states : States) → names_of m ≡ keys_of states →
    find (slice_cmp nat_cmp) key states ≡ None → get_by_text m key ≡ None
no_chain m key states named none =
    not_found string_bytes key m.entries (ap (list_any (bytes_eq key)) named ∙ not_named key states none)

-- what a chain that was written under its name shows
written : (b : Bool) (w : Chain) (o : Option Chain) → versions_in (cond b (Some w) o) ≡ cond b w.versions (versions_in o)
written b w o = grind (arith, nat_tests)

pub written_versions : (old new : List ℕ → Option Chain) (name key : List ℕ) (w : Chain) (v : Versions) → w.versions ≡ v → name ≡ key → (k : List ℕ) →
    new k ≡ cond (bytes_eq name k) (Some w) (old k) → versions_in (new k) ≡ cond (bytes_eq key k) v (versions_in (old k))
written_versions old new name key w v is same k added = grind (arith, nat_tests, written)

pub keys_push : (states : States) (e : List ℕ × KeyState) → keys_of (states ++ e ∷ []) ≡ keys_of states ++ e.0 ∷ []
keys_push [] e = refl
keys_push (d ∷ states) e = ap (λ (l : List (List ℕ)). d.0 ∷ l) (keys_push states e)

inside : (b : Bool) (s : KeyState) (rest : Option KeyState) → cond b (versions_before (Some s)) (versions_before rest) ≡ versions_before (cond b (Some s) rest)
inside b s rest = grind (arith, nat_tests)

-- one more chain
pub one_opened : (states next : States) (e : List ℕ × KeyState) (old new : List ℕ → Versions) → next ≡ states ++ e ∷ [] →
    find (slice_cmp nat_cmp) e.0 states ≡ None → ((k : List ℕ) → old k ≡ versions_before (find (slice_cmp nat_cmp) k states)) →
    ((k : List ℕ) → new k ≡ cond (bytes_eq e.0 k) (versions_before (Some e.1)) (old k)) →
    (k : List ℕ) → new k ≡ versions_before (find (slice_cmp nat_cmp) k next)
one_opened states next e old new more none before added k =
    added k
    ∙ ap (cond (bytes_eq e.0 k) (versions_before (Some e.1))) (before k)
    ∙ inside (bytes_eq e.0 k) e.1 (find (slice_cmp nat_cmp) k states)
    ∙ ap (λ b. versions_before (cond b (Some e.1) (find (slice_cmp nat_cmp) k states))) (nat_list_eq_equiv.symm e.0 k ∙ sym (is_eq-slice_cmp k e.0))
    ∙ sym (ap versions_before (find-append (slice_cmp nat_cmp) nat_list_cmp_total states e.0 e.1 k none))
    ∙ ap (λ (s : States). versions_before (find (slice_cmp nat_cmp) k s)) (sym more)

-- ---- what contracts see of them

is_true : (b : Bool) → b ≡ true → T b
is_true b is = subst T (sym is) tt

sorted_with : (key : List ℕ) (s : Option KeyState) (states : States) → T (is_sorted (slice_cmp nat_cmp) states) →
    T (is_sorted (slice_cmp nat_cmp) (with_present key s states))
sorted_with key None states sorted = sorted
sorted_with key (Some s) states sorted = is_sorted-put (slice_cmp nat_cmp) nat_list_cmp_total key s states sorted

states_sorted : (state : List ℕ → Option KeyState) (keys : List (List ℕ)) → T (is_sorted (slice_cmp nat_cmp) (states_of state keys))
states_sorted state [] = tt
states_sorted state (key ∷ keys) = sorted_with key (state key) (states_of state keys) (states_sorted state keys)

module _ {Y S : Type 0} (m : HashMap (String Y) Chain S) (number : ℕ) (states : States) (can : can_open number states ≡ true)
    (each : (key : List ℕ) → versions_in (get_by_text m key) ≡ versions_before (find (slice_cmp nat_cmp) key states)) where
  -- a store with these chains opens with these states
  pub opens_with : opening_of number m ≡ (let o : Opening = record { number = number; states = states } in o)
  opens_with =
      ap (λ (s : States). let o : Opening = record { number = number; states = s } in o)
      (same_entries (slice_cmp nat_cmp) nat_list_cmp_total (finmap.slice_cmp-IsAntisymmetric finmap.nat_cmp-IsAntisymmetric) (opening_of number m).states
      states (states_sorted (λ key. (versions_in (get_by_text m key)).before) (names_of m)) (is_true _ (can_open_sorted number states can))
      (λ key. before_found m number key ∙ ap (λ (v : Versions). v.before) (each key)))

  pub opened_is_found : (key : List ℕ) → opened_state (opening_of number m) key ≡ find (slice_cmp nat_cmp) key states
  opened_is_found key = ap (λ (o : Opening). opened_state o key) opens_with ∙ can_open_found number states key can

  pub opened_versions : (key : List ℕ) → versions_in (get_by_text m key) ≡ versions_before (opened_state (opening_of number m) key)
  opened_versions key = each key ∙ sym (ap versions_before (opened_is_found key))

  -- all of their keys are present
  pub all_first : (n : ℕ) → names_of m ≡ keys_of states → n ≡ length (names_of m) →
      StandFirst (λ key. is_some (opened_state (opening_of number m) key)) n (names_of m)
  all_first n named long = record {
    within = subst (λ k. k ≤ length (names_of m)) (sym long) (omega arith);
    each = λ place key at.
        ap is_some (opened_is_found key)
        ∙ is_some-find (slice_cmp nat_cmp) key states
        ∙ ap (λ p. list_any p (keys_of states)) (same_choice key)
        ∙ there (keys_of states) place key (ap (λ (l : List (List ℕ)). slice_get l place) (sym named) ∙ at)
        ∙ sym (lt-ltb place n (subst (λ k. place < k) (sym long) (slice_get_within (names_of m) place key at)));
  }
    where
      there : (keys : List (List ℕ)) (place : ℕ) (key : List ℕ) → slice_get keys place ≡ Some key → list_any (bytes_eq key) keys ≡ true
      there [] place key at = absurd (cc)
      there (k ∷ keys) zero key at =
          let same : k ≡ key = cc in
          ap (λ b. b || list_any (bytes_eq key) keys) ((bytes_eq-Decides key k).1 (sym same))
      there (k ∷ keys) (suc place) key at = ap (λ b. bytes_eq key k || b) (there keys place key at) ∙ or-true (bytes_eq key k)

  -- so they are what a key store keeps, where it has no revision
  pub nothing_recorded : (n : ℕ) (xs : List (List Event)) → xs ≡ [] → names_of m ≡ keys_of states → n ≡ length (names_of m) → 1 ≤ number →
      number ≤ HIGHEST_REVISION → IsKept (opening_of number m) (reverse xs) (get_by_text m)
      × StandFirst (λ key. is_some (key_after (opening_of number m) key (changes_of (reverse xs)))) n (names_of m) × (0 ≤ number + length xs)
  nothing_recorded n xs none named long positive bounded = grind (arith, nat_tests, opened_versions, all_first)

  pub opened_history : (xs : List (List Event)) → xs ≡ [] → (let h : History = record { opening = opening_of number m; revisions = changes_of (reverse xs) } in h)
      ≡ (let g : History = record { opening = record { number = number; states = states }; revisions = [] } in g)
  opened_history xs none = grind (arith, nat_tests, opens_with)
