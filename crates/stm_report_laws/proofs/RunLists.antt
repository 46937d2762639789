-- The runners that a check knows, by their numbers.
use Rattle.std.proofs.Common.{◌≡◌, ◌≢◌, ℕ, ◌+◌, ◌-◌, ◌<◌, zero, suc, List, [], ◌∷◌, ◌++◌, length, Option, Some, None, Bool, cond, refl, ◌∙◌, ap, arith}
use Rattle.std.proofs.lemmas.List.{length-set}
use Rattle.std.proofs.lemmas.Option.{slice_get_within}
use Rattle.std.specs.Prelude.{nat_eq, slice_get, slice_set}
use Rattle.std.proofs.lemmas.Bool.Decides.{nat_tests}
use Rattle.stm_world.proofs.Slots.{other_number, differ}
use Rattle.stm_check.specs.declared.runner.Runner.{Runner}
use Rattle.stm_check.specs.Runners.{unless_over, running, with_runner}

own_place : (rs : List Runner) (i : ℕ) (r : Runner) → i < length rs → slice_get (slice_set rs i r) i ≡ Some r
own_place [] i r within = absurd (omega arith)
own_place (x ∷ rs) zero r within = refl
own_place (x ∷ rs) (suc i) r within = own_place rs i r (omega arith)

other_place : (rs : List Runner) (i j : ℕ) (r : Runner) → i ≢ j → slice_get (slice_set rs i r) j ≡ slice_get rs j
other_place [] zero j r ne = refl
other_place [] (suc i) j r ne = refl
other_place (x ∷ rs) zero zero r ne = absurd (ne refl)
other_place (x ∷ rs) zero (suc j) r ne = refl
other_place (x ∷ rs) (suc i) zero r ne = refl
other_place (x ∷ rs) (suc i) (suc j) r ne = other_place rs i j r (λ e. ne (ap suc e))

new_place : (rs : List Runner) (r : Runner) → slice_get (rs ++ r ∷ []) (length rs) ≡ Some r
new_place [] r = refl
new_place (x ∷ rs) r = new_place rs r

old_place : (rs : List Runner) (r : Runner) (j : ℕ) → j ≢ length rs → slice_get (rs ++ r ∷ []) j ≡ slice_get rs j
old_place [] r zero ne = absurd (ne refl)
old_place [] r (suc j) ne = refl
old_place (x ∷ rs) r zero ne = refl
old_place (x ∷ rs) r (suc j) ne = old_place rs r j (λ e. ne (ap suc e))

-- ---- by number

at_positive : (id : ℕ) (o : Option Runner) → 0 < id → cond (nat_eq id 0) None o ≡ o
at_positive id o some = ap (λ (b : Bool). cond b None o) (other_number id 0 (omega arith))

-- by two options of each number above 0
alike : (id : ℕ) (a b : Option Runner) → (id ≢ 0 → a ≡ b) → unless_over (cond (nat_eq id 0) None a) ≡ unless_over (cond (nat_eq id 0) None b)
alike id a b same = grind (arith, nat_tests, differ)

started_as : (o : Option Runner) (r : Runner) → unless_over o ≡ Some r → o ≡ Some r
started_as o r is = grind (arith, nat_tests)

pub record IsThere (id : ℕ) (rs : List Runner) (r : Runner) : Type 0 where
  pub positive : 0 < id
  pub place : slice_get rs (id - 1) ≡ Some r
  pub within : id - 1 < length rs

pub is_there : (id : ℕ) (rs : List Runner) (r : Runner) → running id rs ≡ Some r → IsThere id rs r
is_there id rs r found = grind (arith, nat_tests, started_as, slice_get_within, differ)

-- ---- one runner changed

changed_is : (id : ℕ) (rs : List Runner) (r : Runner) (change : Runner → Runner) → IsThere id rs r →
    with_runner id change rs ≡ slice_set rs (id - 1) (change r)
changed_is id rs r change there = grind (arith, nat_tests, at_positive)

pub changed_own : (id : ℕ) (rs : List Runner) (r : Runner) (change : Runner → Runner) → running id rs ≡ Some r →
    running id (with_runner id change rs) ≡ unless_over (Some (change r))
changed_own id rs r change found = grind (arith, nat_tests, is_there, changed_is, at_positive, own_place)

pub changed_other : (id other : ℕ) (rs : List Runner) (r : Runner) (change : Runner → Runner) → running id rs ≡ Some r → id ≢ other →
    running other (with_runner id change rs) ≡ running other rs
changed_other id other rs r change found ne = grind (arith, nat_tests, is_there, changed_is, alike, other_place)

pub changed_count : (id : ℕ) (rs : List Runner) (r : Runner) (change : Runner → Runner) → running id rs ≡ Some r →
    length (with_runner id change rs) ≡ length rs
changed_count id rs r change found = grind (arith, nat_tests, changed_is, is_there, length-set)

-- ---- one runner more

pub added_own : (rs : List Runner) (r : Runner) → running (length rs + 1) (rs ++ r ∷ []) ≡ unless_over (Some r)
added_own rs r =
    ap unless_over (at_positive (length rs + 1) (slice_get (rs ++ r ∷ []) (length rs + 1 - 1)) (omega arith)
    ∙ ap (λ n. slice_get (rs ++ r ∷ []) n) last ∙ new_place rs r)
  where
    last : length rs + 1 - 1 ≡ length rs
    last = omega arith

pub added_other : (rs : List Runner) (r : Runner) (other : ℕ) → other ≢ length rs + 1 → running other (rs ++ r ∷ []) ≡ running other rs
added_other rs r other ne = grind (arith, nat_tests, alike, old_place)
