-- The places of runners.
use Rattle.std.proofs.Common.{◌≡◌, ◌≢◌, ℕ, ◌+◌, ◌-◌, ◌<◌, ◌≤◌, zero, suc, List, [], ◌∷◌, ◌++◌, length, Option, Some, None, true, false, cond, refl}
use Rattle.std.proofs.Common.{◌∙◌, ap, arith}
use Rattle.std.specs.Prelude.{nat_eq, slice_get, slice_set}
use Rattle.std.specs.Cmp.{unsigned_Decides}
use Rattle.std.proofs.lemmas.Bool.Decides.{nat_tests}
use Rattle.stm_world.specs.World.{Runner, Slot, live_in, runner_at, with_slot}

pub equal_numbers : (a b : ℕ) → nat_eq a b ≡ true → a ≡ b
equal_numbers a b h = (unsigned_Decides a b).0 h

pub same_number : (a : ℕ) → nat_eq a a ≡ true
same_number a = (unsigned_Decides a a).1 refl

pub other_number : (a b : ℕ) → a ≢ b → nat_eq a b ≡ false
other_number a b ne = grind (arith, nat_tests, equal_numbers)

pub differ : (a b : ℕ) → nat_eq a b ≡ false → a ≢ b
differ a b h same = let one : nat_eq a b ≡ true = (unsigned_Decides a b).1 same in absurd (cc)

own_slot : (slots : List Slot) (i : ℕ) (s : Slot) → i < length slots → slice_get (slice_set slots i s) i ≡ Some s
own_slot [] i s within = absurd (omega arith)
own_slot (x ∷ slots) zero s within = refl
own_slot (x ∷ slots) (suc i) s within = own_slot slots i s (omega arith)

other_slot : (slots : List Slot) (i j : ℕ) (s : Slot) → i ≢ j → slice_get (slice_set slots i s) j ≡ slice_get slots j
other_slot [] zero j s ne = refl
other_slot [] (suc i) j s ne = refl
other_slot (x ∷ slots) zero zero s ne = absurd (ne refl)
other_slot (x ∷ slots) zero (suc j) s ne = refl
other_slot (x ∷ slots) (suc i) zero s ne = refl
other_slot (x ∷ slots) (suc i) (suc j) s ne = other_slot slots i j s (λ e. ne (ap suc e))

length-set : (slots : List Slot) (i : ℕ) (s : Slot) → length (slice_set slots i s) ≡ length slots
length-set [] zero s = refl
length-set [] (suc i) s = refl
length-set (x ∷ slots) zero s = refl
length-set (x ∷ slots) (suc i) s = ap suc (length-set slots i s)

live_within : (slots : List Slot) (i : ℕ) (r : Runner) → live_in (slice_get slots i) ≡ Some r → i < length slots
live_within [] i r is = absurd (cc)
live_within (x ∷ slots) zero r is = omega arith
live_within (x ∷ slots) (suc i) r is = let rest : i < length slots = live_within slots i r is in omega arith

new_slot : (slots : List Slot) (s : Slot) → slice_get (slots ++ s ∷ []) (length slots) ≡ Some s
new_slot [] s = refl
new_slot (x ∷ slots) s = new_slot slots s

old_slot : (slots : List Slot) (s : Slot) (j : ℕ) → j ≢ length slots → slice_get (slots ++ s ∷ []) j ≡ slice_get slots j
old_slot [] s zero ne = absurd (ne refl)
old_slot [] s (suc j) ne = refl
old_slot (x ∷ slots) s zero ne = refl
old_slot (x ∷ slots) s (suc j) ne = old_slot slots s j (λ e. ne (ap suc e))

-- ---- by number ----

at_positive : (id : ℕ) (o : Option Runner) → 0 < id → cond (nat_eq id 0) None o ≡ o
at_positive id o some = ap (λ b. cond b None o) (other_number id 0 (omega arith))

-- a runner that is there has a number above 0 and at most their number
pub runner_there : (id : ℕ) (slots : List Slot) (r : Runner) → runner_at id slots ≡ Some r → (0 < id) × (id ≤ length slots)
runner_there id slots r found = grind (arith, nat_tests, live_within, differ)

pub runner_own : (id : ℕ) (slots : List Slot) (slot : Slot) → 0 < id → id ≤ length slots → runner_at id (with_slot id slot slots) ≡ live_in (Some slot)
runner_own id slots slot some within = grind (arith, nat_tests, at_positive, own_slot)

pub runner_other : (id other : ℕ) (slots : List Slot) (slot : Slot) → 0 < id → id ≢ other → runner_at other (with_slot id slot slots) ≡ runner_at other slots
runner_other id other slots slot some ne = grind (arith, nat_tests, differ, other_slot)

pub count_stays : (id : ℕ) (slots : List Slot) (slot : Slot) → length (with_slot id slot slots) ≡ length slots
count_stays id slots slot = length-set slots (id - 1) slot

pub runner_new : (slots : List Slot) (slot : Slot) → runner_at (length slots + 1) (slots ++ slot ∷ []) ≡ live_in (Some slot)
runner_new slots slot =
    at_positive (length slots + 1) (live_in (slice_get (slots ++ slot ∷ []) (length slots + 1 - 1))) (omega arith)
    ∙ ap (λ n. live_in (slice_get (slots ++ slot ∷ []) n)) last
    ∙ ap live_in (new_slot slots slot)
  where
    last : length slots + 1 - 1 ≡ length slots
    last = omega arith

pub runner_old : (slots : List Slot) (slot : Slot) (other : ℕ) → other ≢ length slots + 1 → runner_at other (slots ++ slot ∷ []) ≡ runner_at other slots
runner_old slots slot other ne = grind (arith, nat_tests, differ, old_slot)

pub count_grows : (slots : List Slot) (slot : Slot) → length (slots ++ slot ∷ []) ≡ length slots + 1
count_grows [] slot = refl
count_grows (x ∷ slots) slot = let rest : length (slots ++ slot ∷ []) ≡ length slots + 1 = count_grows slots slot in omega arith

-- where there is no place there is no runner
pub no_runner : (id : ℕ) → runner_at id [] ≡ None
no_runner id = grind (arith, nat_tests)
