-- Sums and items that are read one after another.
use Rattle.std.proofs.Common.{◌≡◌, ℕ, suc, ◌+◌, ◌-◌, ◌*◌, ◌^◌, ◌<◌, true, List, [], ◌∷◌, ◌++◌, length, get_or, drop, map}
use Rattle.std.proofs.Common.{Option, None, Some, refl, sym, ◌∙◌, ap, arith}
use Rattle.std.specs.Prelude.{ℤ, pos, negsuc, neg_ℤ, ◌+ℤ◌, ◌≤ℤ◌, FitsSigned, Result, Ok, Err}
use Rattle.std.proofs.lemmas.Grind.{common_steps}
use Rattle.std.proofs.lemmas.Int.{ints}
use Rattle.std.proofs.lemmas.List.{append_assoc, map-append}
use Rattle.std.proofs.Math.Seq.{drop-cons}
use Rattle.stm_steps.specs.declared.state.StateEntry.{StateEntry}
use Rattle.stm_steps.specs.declared.fault.Fault.{Fault}
use Rattle.stm_steps.specs.States.{find_entry}
use Rattle.stm_steps.specs.Values.{is_in_range, written_number}
use mir.Syntax.{w64}
use Rattle.stm_recipes.specs.Accounts.{written_or_none, sum_of, balance_of, total_of}
use Rattle.stm_recipes.specs.Queues.{item_at, item_before, items_from}
use Rattle.stm_recipes.proofs.AccountRuns.{written_in_range}

-- ---- sums

pub sum_of-more : (s x : ℤ) (rest : Option ℤ) → sum_of (Some (s +ℤ x)) rest ≡ sum_of (Some s) (sum_of (Some x) rest)
sum_of-more s x None = refl
sum_of-more s x (Some y) = let e : s +ℤ x +ℤ y ≡ s +ℤ (x +ℤ y) = omega (arith, ints) in ap (λ z. Some z) e

-- the number of an account stands before the sum of the accounts after it
total_of-one : (entries : List StateEntry) (account : List ℕ) (accounts : List (List ℕ)) (s x : ℤ) → balance_of (find_entry account entries) ≡ Some x →
    sum_of (Some (s +ℤ x)) (total_of entries accounts) ≡ sum_of (Some s) (total_of entries (account ∷ accounts))
total_of-one entries account accounts s x is =
    sum_of-more s x (total_of entries accounts) ∙ sym (ap (λ o. sum_of (Some s) (sum_of o (total_of entries accounts))) is)

-- one account more of a list, where the sum so far stands before those that are left
pub total_of-next : {A : Type 0} (entries : List StateEntry) (f : A → List ℕ) (accounts : List A) (i : ℕ) (d : A) (s x : ℤ) → i < length accounts →
    Some x ≡ balance_of (find_entry (f (get_or accounts i d)) entries) →
    sum_of (Some (s +ℤ x)) (total_of entries (map f (drop (i + 1) accounts))) ≡ sum_of (Some s) (total_of entries (map f (drop i accounts)))
total_of-next entries f accounts i d s x within is =
    let step : i + 1 ≡ suc i = omega arith in
    ap (λ n. sum_of (Some (s +ℤ x)) (total_of entries (map f (drop n accounts)))) step
    ∙ total_of-one entries (f (get_or accounts i d)) (map f (drop (suc i) accounts)) s x (sym is)
    ∙ sym (ap (λ l. sum_of (Some s) (total_of entries (map f l))) (drop-cons accounts i d within))

-- ---- balances have 64 bits

written_or_none-is : (r : Result ℤ Fault) (x : ℤ) → Some x ≡ written_or_none r → r ≡ Ok x
written_or_none-is (Ok z) x e = cc
written_or_none-is (Err fault) x e = absurd (cc)

in_range-fits : (x : ℤ) → is_in_range x ≡ true → FitsSigned w64 x
in_range-fits (pos n) e = let small : n < 2 ^ 63 = grind (arith, common_steps) in record { sfits = small }
in_range-fits (negsuc n) e = let small : n < 2 ^ 63 = grind (arith, common_steps) in record { sfits = small }

pub balance_fits : (found : Option StateEntry) (x : ℤ) → Some x ≡ balance_of found → FitsSigned w64 x
balance_fits None x e = absurd (cc)
balance_fits (Some entry) x e =
    in_range-fits x (written_in_range entry.value x (written_or_none-is (written_number entry.value) x e))

-- each account takes the sum at most 64 bits further

pub above-next : (i : ℕ) (s x : ℤ) → neg_ℤ (pos (2 ^ 63 * i)) ≤ℤ s → neg_ℤ (pos (2 ^ 63)) ≤ℤ x → neg_ℤ (pos (2 ^ 63 * (i + 1))) ≤ℤ (s +ℤ x)
above-next i s x low more = omega (arith, ints)

pub below-next : (i : ℕ) (s x : ℤ) → s ≤ℤ pos (2 ^ 63 * i) → x ≤ℤ pos (2 ^ 63) → (s +ℤ x) ≤ℤ pos (2 ^ 63 * (i + 1))
below-next i s x high more = omega (arith, ints)

-- ---- items

-- items that stand before others, where there are others
abbrev pub before : List (List ℕ) → Option (List (List ℕ)) → Option (List (List ℕ))
before items None = None
before items (Some more) = Some (items ++ more)

before-one : (items : List (List ℕ)) (item : List ℕ) (rest : Option (List (List ℕ))) →
    before (items ++ item ∷ []) rest ≡ before items (item_before (Some item) rest)
before-one items item None = refl
before-one items item (Some more) = ap (λ l. Some l) (append_assoc items (item ∷ []) more)

-- the item of a number stands before those of the numbers above it
items_from-one : (entries : List StateEntry) (queue : List ℕ) (number tail : ℕ) (items : List (List ℕ)) (item : List ℕ) → number < tail →
    Some item ≡ item_at entries queue number →
    before (items ++ item ∷ []) (items_from entries queue (number + 1) (tail - (number + 1))) ≡ before items (items_from entries queue number (tail - number))
items_from-one entries queue number tail items item below is =
    let rest = items_from entries queue (number + 1) (tail - (number + 1)) in
    let step : tail - number ≡ suc (tail - (number + 1)) = omega arith in
    before-one items item rest
    ∙ sym (ap (λ n. before items (items_from entries queue number n)) step ∙ ap (λ o. before items (item_before o rest)) (sym is))

-- one item more of a list, where the items so far stand before those that are left
pub items_from-next : {A : Type 0} (entries : List StateEntry) (queue : List ℕ) (f : A → List ℕ) (number tail : ℕ) (items grown : List A) (item : A) →
    number < tail → Some (f item) ≡ item_at entries queue number → grown ≡ items ++ item ∷ [] →
    before (map f grown) (items_from entries queue (number + 1) (tail - (number + 1))) ≡ before (map f items) (items_from entries queue number (tail - number))
items_from-next entries queue f number tail items grown item below is more =
    ap (λ l. before l (items_from entries queue (number + 1) (tail - (number + 1)))) (ap (map f) more ∙ map-append f items (item ∷ []))
    ∙ items_from-one entries queue number tail (map f items) (f item) below is

-- no items, where the first one is absent
pub items_from-absent : (entries : List StateEntry) (queue : List ℕ) (number tail : ℕ) → number < tail → item_at entries queue number ≡ None →
    items_from entries queue number (tail - number) ≡ None
items_from-absent entries queue number tail below absent =
    let rest = items_from entries queue (number + 1) (tail - (number + 1)) in
    let step : tail - number ≡ suc (tail - (number + 1)) = omega arith in
    ap (items_from entries queue number) step ∙ ap (λ o. item_before o rest) absent
