-- How long schedules are.
use Rattle.std.proofs.Common.{◌≡◌, ℕ, zero, suc, ◌≤◌, true, false, List, [], ◌∷◌, length, refl, ap, arith}
use Rattle.std.proofs.lemmas.Bool.Decides.{nat_tests}
use Rattle.stm_schedules.specs.declared.moves.Move.{Move}
use Rattle.stm_schedules.specs.Places.{Place, moves, moved}
use Rattle.stm_schedules.specs.Schedules.{IsSchedule}
use Rattle.stm_schedules.specs.Keeping.{goes_on, LongestIsAll}
use Rattle.stm_schedules.proofs.Members.{among, contained, some_pass, one_passes, none_passes}

abbrev pub AsLong : ℕ → Place → Type 0
AsLong n p = (schedule : List Move) × IsSchedule schedule p × (length schedule ≡ n)

pub as_long : (n : ℕ) (p : Place) → goes_on n p ≡ true → AsLong n p
as_long zero p is = ([], tt, refl)
as_long (suc n) p is =
    let first = some_pass (λ (m : Move). goes_on n (moved m p)) (moves p) is in
    let rest = as_long n (moved first.0 p) first.2 in
    (first.0 ∷ rest.0, (contained first.0 (moves p) first.1, rest.1), ap suc rest.2)

pub does_go_on : (n : ℕ) (p : Place) (schedule : List Move) → IsSchedule schedule p → length schedule ≡ n → goes_on n p ≡ true
does_go_on zero p schedule s is = refl
does_go_on (suc n) p [] s is = absurd (omega arith)
does_go_on (suc n) p (m ∷ ms) s is =
    one_passes (λ (o : Move). goes_on n (moved o p)) (moves p) m (among m (moves p) s.0) (does_go_on n (moved m p) ms s.1 (omega arith))

none_longer : (n : ℕ) (p : Place) (schedule : List Move) → goes_on (suc n) p ≡ false → IsSchedule schedule p → length schedule ≤ n
none_longer n p [] ends s = omega arith
none_longer zero p (m ∷ ms) ends s =
    let none : true ≡ false = none_passes (λ (o : Move). goes_on zero (moved o p)) (moves p) m (among m (moves p) s.0) ends in absurd (cc)
none_longer (suc n) p (m ∷ ms) ends s =
    let rest : length ms ≤ n = none_longer n (moved m p) ms
    (none_passes (λ (o : Move). goes_on (suc n) (moved o p)) (moves p) m (among m (moves p) s.0) ends) s.1 in
    omega arith

pub longest_is_all : LongestIsAll
longest_is_all = grind (arith, nat_tests, as_long, does_go_on, none_longer)
