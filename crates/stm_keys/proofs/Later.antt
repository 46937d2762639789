-- The next change of a key, found in its chain.
use Rattle.std.proofs.Common.{◌≡◌, ℕ, ◌+◌, ◌≤◌, ◌<◌, Bool, true, false, ◌&&◌, List, [], ◌∷◌, ◌++◌, length, map, reverse, get_or, Option, Some, None}
use Rattle.std.proofs.Common.{zero, suc, refl, sym, ◌∙◌, ap, arith, cond, is_some, ltb}
use Rattle.std.specs.Prelude.{nat_lt, slice_get, min}
use Rattle.std.specs.Option.{option_or}
use Rattle.std.specs.List.Sorted.{IsPartitionPoint}
use Rattle.std.proofs.lemmas.Bool.{cases_lt, lt-ltb, le-ltb, Decides.nat_tests}
use Rattle.std.proofs.lemmas.List.{length-map, reverse-append}
use Rattle.std.proofs.lemmas.Option.{slice_get-get_or, slice_get_past}
use Rattle.stm_history.specs.declared.change.Change.{Change}
use Rattle.stm_history.specs.Opening.{Opening}
use Rattle.stm_history.specs.History.{key_of, change_of}
use Rattle.stm_keys.specs.declared.event.Event.{Event}
use Rattle.stm_keys.specs.Events.{key_of_event, event_about, change_of_event}
use Rattle.stm_keys.specs.Keys.{changes_of, IsKept}
use Rattle.stm_keys.specs.NextChange.{first_change, changes_key}
use Rattle.stm_keys.specs.Chains.{Versions, Chain, versions_in, versions_of, with_version, oldest_from}
use Rattle.stm_keys.proofs.Walked.{AreKept, are_kept}

-- ---- by halves

-- the first of these that is not below a bound
abbrev first_from : ℕ → List ℕ → Option ℕ
first_from bound [] = None
first_from bound (x ∷ xs) = cond (nat_lt x bound) (first_from bound xs) (Some x)

either_case : (b c : Bool) (o : Option ℕ) (x y : ℕ) →
    option_or (cond b o (Some x)) (cond c None (Some y)) ≡ cond b (option_or o (cond c None (Some y))) (Some x)
either_case b c o x y = grind (arith, nat_tests)

from_last : (bound x : ℕ) (ys : List ℕ) → oldest_from bound (ys ++ x ∷ []) ≡ cond (nat_lt x bound) (oldest_from bound ys) (Some x)
from_last bound x [] = refl
from_last bound x (y ∷ ys) = grind (arith, nat_tests, either_case, from_last bound x ys)

from_reversed : (bound : ℕ) (xs : List ℕ) → oldest_from bound (reverse xs) ≡ first_from bound xs
from_reversed bound [] = refl
from_reversed bound (x ∷ xs) =
    ap (oldest_from bound) (reverse-append (x ∷ []) xs)
    ∙ from_last bound x (reverse xs)
    ∙ ap (λ (o : Option ℕ). cond (nat_lt x bound) o (Some x)) (from_reversed bound xs)

first_cut : (bound : ℕ) (xs : List ℕ) (m : ℕ) → ((j : ℕ) → j < m → ltb (get_or xs j 0) bound ≡ true)
    → ((j : ℕ) → m ≤ j → j < length xs → ltb (get_or xs j 0) bound ≡ false) → slice_get xs m ≡ first_from bound xs
first_cut bound [] m low high = slice_get_past [] m (omega arith)
first_cut bound (x ∷ xs) zero low high = sym (ap (λ b. cond b (first_from bound xs) (Some x)) (high 0 (omega arith) (omega arith)))
first_cut bound (x ∷ xs) (suc m) low high =
    first_cut bound xs m (λ j below. low (suc j) (omega arith)) (λ j above within. high (suc j) (omega arith) (omega arith))
    ∙ sym (ap (λ b. cond b (first_from bound xs) (Some x)) (low 0 (omega arith)))

cut_found : (xs : List ℕ) (bound m : ℕ) → IsPartitionPoint (λ y. ltb y bound ≡ true) (λ y. ltb y bound ≡ false) xs m →
    slice_get xs m ≡ oldest_from bound (reverse xs)
cut_found xs bound m cut = grind (arith, nat_tests, first_cut, from_reversed)

pub none_from : (xs : List ℕ) (bound m : ℕ) → length xs ≤ m → IsPartitionPoint (λ y. ltb y bound ≡ true) (λ y. ltb y bound ≡ false) xs m →
    None ≡ oldest_from bound (reverse xs)
none_from xs bound m past cut = sym (slice_get_past xs m past) ∙ cut_found xs bound m cut

pub one_from : (xs : List ℕ) (bound m number : ℕ) → m < length xs → number ≡ get_or xs m 0 →
    IsPartitionPoint (λ y. ltb y bound ≡ true) (λ y. ltb y bound ≡ false) xs m → Some number ≡ oldest_from bound (reverse xs)
one_from xs bound m number within is cut = ap Some is ∙ sym (slice_get-get_or xs m 0 within) ∙ cut_found xs bound m cut

-- ---- the number of the next change

key_shown : (e : Event) → key_of (change_of_event e) ≡ key_of_event e
key_shown e = grind (arith, nat_tests)

about_case : (b : Bool) (c : Change) (e : Event) (d : Option Change) (o : Option Event) → is_some d ≡ is_some o →
    is_some (cond b (Some c) d) ≡ is_some (cond b (Some e) o)
about_case b c e d o same = grind (arith, nat_tests)

-- a revision changes a key where it has an event of it
about_change : (key : List ℕ) (events : List Event) → is_some (change_of key (map change_of_event events)) ≡ is_some (event_about key events)
about_change key [] = refl
about_change key (e ∷ es) = grind (arith, nat_tests, key_shown, about_case, about_change key es)

and_false : (b : Bool) → (b && false) ≡ false
and_false b = grind (arith, nat_tests)

and_true : (b : Bool) → (b && true) ≡ b
and_true b = grind (arith, nat_tests)

-- a number is above another where it is not below the next one
counted : (above number : ℕ) → cond (nat_lt above number) (Some number) None ≡ cond (nat_lt number (above + 1)) None (Some number)
counted above number = grind (arith, nat_tests, cases_lt, lt-ltb, le-ltb)

one_more : (above number : ℕ) (b : Bool) (versions : Versions) (o : Option ℕ) → o ≡ oldest_from (above + 1) versions.numbers →
    option_or o (cond (nat_lt above number && b) (Some number) None) ≡ oldest_from (above + 1) (with_version b number versions).numbers
one_more above number b versions o is = grind (arith, nat_tests, and_false, and_true, counted)

change_found : (opening : Opening) (above : ℕ) (key : List ℕ) (recorded : List (List Event)) →
    first_change opening above (changes_key key) (changes_of recorded) ≡ oldest_from (above + 1) (versions_of opening key recorded).numbers
change_found opening above key [] = refl
change_found opening above key (events ∷ older) = grind (arith, nat_tests, length-map, about_change, one_more, change_found opening above key older)

-- above all numbers there is none
none_past : (bound below count : ℕ) (numbers : List ℕ) → AreKept below count numbers → below + count < bound → oldest_from bound numbers ≡ None
none_past bound below count [] all past = refl
none_past bound below count (n ∷ ns) all past = grind (arith, nat_tests, lt-ltb, none_past bound below count ns all.1 past)

-- what is found in a key's chain is the number of the next revision that changes the key
pub next_found : (opening : Opening) (above bound : ℕ) (recorded : List (List Event)) (chains : List ℕ → Option Chain) (key : List ℕ) →
    IsKept opening recorded chains → bound ≡ min (above + 1) 18446744073709551615 →
    oldest_from bound (versions_in (chains key)).numbers ≡ first_change opening above (changes_key key) (changes_of recorded)
next_found opening above bound recorded chains key kept is = grind (arith, nat_tests, change_found, cases_lt, none_past, are_kept)
