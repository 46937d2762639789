-- Events that ascend by their keys, and those of them that are about keys between two.
use Rattle.std.proofs.Common.{◌≡◌, ℕ, ◌+◌, ◌<◌, ◌≤◌, Bool, true, false, cond, not, ◌&&◌, List, [], ◌∷◌, length, get_or, take, drop, zero, suc}
use Rattle.std.proofs.Common.{refl, sym, ◌∙◌, ap, arith}
use Rattle.std.specs.List.{filter, list_any}
use Rattle.std.specs.Ordering.{nat_cmp, is_lt, is_le}
use Rattle.std.specs.Cmp.Lexicographic.{slice_cmp, nat_list_cmp_total}
use Rattle.std.proofs.lemmas.Bool.{cases_Bool, Decides.nat_tests}
use Rattle.stm_keys.specs.declared.event.Event.{Event}
use Rattle.stm_keys.specs.Events.{key_of_event}
use Rattle.stm_keys.specs.NextChange.{is_between}
use Rattle.stm_keys.specs.Runs.{is_any_about}
use Rattle.stm_keys.specs.Within.{is_within, those_within, Ascend}
use Rattle.stm_keys.proofs.Ranges.{not_true, turned}

-- ---- parts of a list

module _ {X : Type 0} where
  -- what a test does not pass can be left out at the front, or at the back
  pub without_front : (p : X → Bool) (n : ℕ) (xs : List X) → ((k : ℕ) (d : X) → k < n → k < length xs → p (get_or xs k d) ≡ false) →
      filter p (drop n xs) ≡ filter p xs
  without_front p zero xs none = refl
  without_front p (suc n) [] none = refl
  without_front p (suc n) (x ∷ xs) none =
      without_front p n xs (λ k d less within. none (suc k) d (omega arith) (omega arith))
      ∙ ap (λ b. cond b (x ∷ filter p xs) (filter p xs)) (sym (none 0 x (omega arith) (omega arith)))

  pub without_back : (p : X → Bool) (n : ℕ) (xs : List X) → ((k : ℕ) (d : X) → n ≤ k → k < length xs → p (get_or xs k d) ≡ false) →
      filter p (take n xs) ≡ filter p xs
  without_back p zero [] none = refl
  without_back p (suc n) [] none = refl
  without_back p zero (x ∷ xs) none =
      without_back p 0 xs (λ k d more within. none (suc k) d (omega arith) (omega arith))
      ∙ ap (λ b. cond b (x ∷ filter p xs) (filter p xs)) (sym (none 0 x (omega arith) (omega arith)))
  without_back p (suc n) (x ∷ xs) none =
      ap (λ l. cond (p x) (x ∷ l) l) (without_back p n xs (λ k d more within. none (suc k) d (omega arith) (omega arith)))

  -- those that pass a test are among those that pass a weaker one
  pub filter_weaker : (p q : X → Bool) → ((x : X) → p x ≡ true → q x ≡ true) → (xs : List X) → filter p (filter q xs) ≡ filter p xs
  filter_weaker p q weaker [] = refl
  filter_weaker p q weaker (x ∷ xs) = grind (arith, nat_tests, cases_Bool, weaker, filter_weaker p q weaker xs)

  pub any_weaker : (p q : X → Bool) → ((x : X) → p x ≡ true → q x ≡ true) → (xs : List X) → list_any p (filter q xs) ≡ list_any p xs
  any_weaker p q weaker [] = refl
  any_weaker p q weaker (x ∷ xs) = grind (arith, nat_tests, cases_Bool, weaker, any_weaker p q weaker xs)

-- ---- ascending events

pub ascending : (events : List Event) → ((k : ℕ) (d : Event) → k + 1 < length events →
    true ≡ not (is_lt (slice_cmp nat_cmp (key_of_event (get_or events (k + 1) d)) (key_of_event (get_or events k d))))) → Ascend events
ascending events neighbours k d low within =
    not_true (is_lt (slice_cmp nat_cmp (key_of_event (get_or events (k + 1) d)) (key_of_event (get_or events k d)))) (sym (neighbours k d within))

-- ---- keys between two

pub too_low : (first last key : List ℕ) → is_lt (slice_cmp nat_cmp key first) ≡ true → is_within first last key ≡ false
too_low first last key before =
    ap (λ b. b && is_le (slice_cmp nat_cmp key last)) (ap is_le (nat_list_cmp_total.antisymm first key) ∙ turned (slice_cmp nat_cmp key first) before)

not_false : (b : Bool) → not b ≡ false → b ≡ true
not_false b is = grind (arith, nat_tests)

and_false : (a b : Bool) → b ≡ false → (a && b) ≡ false
and_false a b is = grind (arith, nat_tests)

pub too_high : (first last key : List ℕ) → not (is_lt (slice_cmp nat_cmp last key)) ≡ false → is_within first last key ≡ false
too_high first last key behind =
    and_false (is_le (slice_cmp nat_cmp first key)) (is_le (slice_cmp nat_cmp key last))
    (ap is_le (nat_list_cmp_total.antisymm key last) ∙ turned (slice_cmp nat_cmp last key) (not_false (is_lt (slice_cmp nat_cmp last key)) behind))

-- a key of a range is within its ends
between_within : (first end key : List ℕ) → is_between first end key ≡ true → is_within first end key ≡ true
between_within first end key is = grind (arith, nat_tests, cases_Bool, below_is)
  where
    below_is : (o : _) → is_lt o ≡ true → is_le o ≡ true
    below_is o is = grind arith

-- so that what is said of all events of a range is said of those within
pub any_within : (first end : List ℕ) (some all : List Event) → those_within first end some ≡ those_within first end all →
    is_any_about (is_between first end) some ≡ is_any_about (is_between first end) all
any_within first end some all same =
    let passes : Event → Bool = λ e. is_between first end (key_of_event e) in
    let weaker = λ (e : Event). between_within first end (key_of_event e) in
    sym (any_weaker passes (λ e. is_within first end (key_of_event e)) weaker some)
    ∙ ap (list_any passes) same ∙ any_weaker passes (λ e. is_within first end (key_of_event e)) weaker all
