-- The state of a store, key by key.
use Rattle.std.proofs.Common.{◌≡◌, ◌∙◌, ℕ, ◌+◌, ◌<◌, ◌≤◌, ◌||◌, Bool, false, cond, List, [], ◌∷◌, ◌++◌, take, map, length, get_or, sym}
use Rattle.std.proofs.Common.{ap, None, String, string_bytes, arith}
use Rattle.std.specs.Prelude.{bytes_eq}
use Rattle.std.proofs.lemmas.List.{take_all, map_more}
use Rattle.std.proofs.lemmas.List.Folds.{list_any-append}
use Rattle.std.proofs.lemmas.Bool.Decides.{nat_tests}
use Rattle.stm_history.specs.History.{History, key_now}
use Rattle.stm_steps.specs.declared.state.StateEntry.{StateEntry}
use Rattle.stm_journal.specs.PresentKeys.{is_listed, ArePresent}
use Rattle.stm_journal.specs.StateOf.{entry_now, IsStateOf, IsStateOfSeen}

-- the same keys seen
seen_alike : (h : History) (seen other : List ℕ → Bool) (entries : List StateEntry) → ((q : List ℕ) → seen q ≡ other q) →
    IsStateOfSeen h seen entries → IsStateOfSeen h other entries
seen_alike h seen other entries alike so_far q = so_far q ∙ ap (λ b. cond b (entry_now q (key_now h q)) None) (alike q)

or_false : (a : Bool) → (a || false) ≡ a
or_false a = grind (arith, nat_tests)

-- where all keys that are present are seen, it is the whole state
all_seen : (h : History) (keys : List (List ℕ)) (entries : List StateEntry) → ArePresent h keys →
    IsStateOfSeen h (λ q. is_listed q keys) entries → IsStateOf h entries
all_seen h keys entries present so_far q = grind (arith, nat_tests)

module _ {A : Type 0} where
  -- one more key
  one_listed : (texts : List (String A)) (i : ℕ) (t : String A) (q : List ℕ) → i < length texts → t ≡ get_or texts i t →
      (is_listed q (map string_bytes (take i texts)) || bytes_eq (string_bytes t) q) ≡ is_listed q (map string_bytes (take (i + 1) texts))
  one_listed texts i t q within is =
      let front : List (List ℕ) = map string_bytes (take i texts) in
      ap (λ b. is_listed q front || b) (sym (or_false (bytes_eq (string_bytes t) q)))
      ∙ sym (list_any-append (λ (k : List ℕ). bytes_eq k q) front (string_bytes t ∷ []))
      ∙ ap (λ (x : String A). is_listed q (front ++ string_bytes x ∷ [])) is
      ∙ ap (is_listed q) (sym (map_more string_bytes texts i t within))

  pub one_key_seen : (h : History) (texts : List (String A)) (i : ℕ) (t : String A) (key : List ℕ) (entries : List StateEntry) →
      i < length texts → t ≡ get_or texts i t → key ≡ string_bytes t →
      IsStateOfSeen h (λ q. is_listed q (map string_bytes (take i texts)) || bytes_eq key q) entries →
      IsStateOfSeen h (λ q. is_listed q (map string_bytes (take (i + 1) texts))) entries
  one_key_seen h texts i t key entries within is shown = grind (arith, nat_tests, seen_alike, one_listed)

  -- once no key is left
  pub all_keys_seen : (h : History) (texts present : List (String A)) (i : ℕ) (entries : List StateEntry) → length texts ≤ i → texts ≡ present →
      ArePresent h (map string_bytes present) → IsStateOfSeen h (λ q. is_listed q (map string_bytes (take i texts))) entries → IsStateOf h entries
  all_keys_seen h texts present i entries end same are so_far = grind (arith, nat_tests, all_seen, seen_alike, take_all)
