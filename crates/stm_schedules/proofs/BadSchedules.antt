-- The first schedule that does not keep a rule.
use Rattle.std.proofs.Common.{◌≡◌, ◌≢◌, ℕ, zero, suc, ◌<◌, ◌≤◌, Bool, true, false, cond, nat_eq, List, [], ◌∷◌, length, Option, Some, None}
use Rattle.std.proofs.Common.{option_map, refl, ◌∙◌, ap, subst, arith}
use Rattle.std.specs.Option.{option_or}
use Rattle.std.proofs.lemmas.Bool.Decides.{nat_tests}
use Rattle.stm_meaning.proofs.RunLaws.{whole_lookups_end}
use Rattle.stm_compile.specs.Answers.{state_now}
use Rattle.stm_world.specs.World.{World}
use Rattle.stm_world.proofs.Slots.{equal_numbers, differ}
use Rattle.stm_schedules.specs.declared.moves.Move.{Move}
use Rattle.stm_schedules.specs.Places.{Place, moves, moved}
use Rattle.stm_schedules.specs.Schedules.{place_after, IsSchedule, IsBefore, AreBefore}
use Rattle.stm_schedules.specs.Keeping.{end_of, KeepsAfter, AllKeepUpTo, IsFirstBad, bad_at, first_bad, FirstBadIsFirst, RulesEnd}
use Rattle.stm_schedules.proofs.Members.{IsAmong, among, contained, or_none, map_none, map_some, none_found}
use Rattle.stm_schedules.proofs.MoveLemmas.{moves_ascend, FoundFirst, found_first}

-- ---- of exactly n moves

-- what follows a move, with the move before it
abbrev pub bad_after : (World → Bool) → ℕ → Place → Move → Option (List Move)
bad_after keep n p m = option_map (λ (ms : List Move). m ∷ ms) (bad_at keep n (moved m p))

pub kept_here : (b : Bool) → cond b None (Some (let none : List Move = [] in none)) ≡ None → b ≡ true
kept_here b is = grind (arith, nat_tests)

pub none_bad : (keep : World → Bool) (n : ℕ) (p : Place) (schedule : List Move) → bad_at keep n p ≡ None → IsSchedule schedule p →
    length schedule ≡ n → KeepsAfter keep p schedule
none_bad keep zero p [] none s as_long = kept_here (keep p.world) none
none_bad keep zero p (m ∷ ms) none s as_long = absurd (omega arith)
none_bad keep (suc n) p [] none s as_long = absurd (omega arith)
none_bad keep (suc n) p (m ∷ ms) none s as_long =
    grind (arith, nat_tests, map_none, none_found, among, none_bad keep n (moved m p) ms (map_none (λ (rest : List Move). m ∷ rest) (bad_at keep n (moved m p)) (none_found (bad_after keep n p) (moves p) m none (among m (moves p) s.0))) s.1 (omega arith))

-- a schedule of n moves that does not keep the rule, while those of n moves before it do
pub record IsBadAt (keep : World → Bool) (n : ℕ) (p : Place) (schedule : List Move) : Type 0 where
  pub is_schedule : IsSchedule schedule p
  pub is_bad : keep (place_after schedule p).world ≡ false
  pub as_long : length schedule ≡ n
  pub before_keep : (other : List Move) → IsSchedule other p → length other ≡ n → AreBefore other schedule → KeepsAfter keep p other

pub none_before : (other : List Move) → AreBefore other [] → ⊥
none_before [] before = before
none_before (m ∷ ms) before = before

bad_here : (keep : World → Bool) (p : Place) (schedule : List Move) (b : Bool) → keep p.world ≡ b → cond b None (Some []) ≡ Some schedule →
    IsBadAt keep zero p schedule
bad_here keep p schedule b is found = grind (arith, nat_tests, none_before)

-- a schedule from where a move leads, where the same move leads there
from_same : (one same_one : Move) (ms : List Move) (p : Place) → one ≡ same_one → IsSchedule ms (moved one p) → IsSchedule ms (moved same_one p)
from_same one same_one ms p same s = subst (λ (m : Move). IsSchedule ms (moved m p)) same s

kept_before : (keep : World → Bool) (n : ℕ) (p : Place) (move : Move) (rest : List Move) → ((o : Move) → IsAmong o (moves p) → IsBefore o move →
    bad_after keep n p o ≡ None) → IsBadAt keep n (moved move p) rest → (other : List Move) → IsSchedule other p → length other ≡ suc n →
    AreBefore other (move ∷ rest) → KeepsAfter keep p other
kept_before keep n p move rest none bad [] s as_long before = absurd before
kept_before keep n p move rest none bad (o ∷ os) s as_long before = grind (arith, nat_tests, none_bad, map_none, among, from_same)

bad_further : (keep : World → Bool) (n : ℕ) (p : Place) (move : Move) (rest : List Move) → IsAmong move (moves p) →
    ((o : Move) → IsAmong o (moves p) → IsBefore o move → bad_after keep n p o ≡ None) → IsBadAt keep n (moved move p) rest →
    IsBadAt keep (suc n) p (move ∷ rest)
bad_further keep n p move rest a none bad = record {
  is_schedule = (contained move (moves p) a, bad.is_schedule);
  is_bad = bad.is_bad;
  as_long = ap suc bad.as_long;
  before_keep = kept_before keep n p move rest none bad;
}

pub is_bad_at : (keep : World → Bool) (n : ℕ) (p : Place) (schedule : List Move) → bad_at keep n p ≡ Some schedule → IsBadAt keep n p schedule
is_bad_at keep zero p schedule found = bad_here keep p schedule (keep p.world) refl found
is_bad_at keep (suc n) p schedule found =
    let first : FoundFirst (bad_after keep n p) (moves p) schedule = found_first (bad_after keep n p) (moves p) schedule (moves_ascend p) found in
    let rest = map_some (λ (ms : List Move). first.move ∷ ms) (bad_at keep n (moved first.move p)) schedule first.gives in
    subst (λ (ms : List Move). IsBadAt keep (suc n) p ms) rest.2
    (bad_further keep n p first.move rest.0 first.is_among first.before (is_bad_at keep n (moved first.move p) rest.0 rest.1))

-- ---- of up to n moves

pub none_bad_up_to : (keep : World → Bool) (n : ℕ) (p : Place) → first_bad keep n p ≡ None → AllKeepUpTo keep n p
none_bad_up_to keep zero p none schedule s within = none_bad keep zero p schedule none s (omega arith)
none_bad_up_to keep (suc n) p none schedule s within =
    let both = or_none (first_bad keep n p) (bad_at keep (suc n) p) none in
    elim (nat_eq (length schedule) (suc n)) as (λ b. nat_eq (length schedule) (suc n) ≡ b → KeepsAfter keep p schedule) [
      | true ↦ λ e. none_bad keep (suc n) p schedule both.1 s (equal_numbers (length schedule) (suc n) e)
      | false ↦ λ e. let other : length schedule ≢ suc n = differ (length schedule) (suc n) e in
          none_bad_up_to keep n p both.0 schedule s (omega arith)
    ] refl

record IsFirst (keep : World → Bool) (n : ℕ) (p : Place) (schedule : List Move) : Type 0 where
  bad : IsFirstBad keep p schedule
  within : length schedule ≤ n

-- one of n moves that is bad, where none of fewer is
first_at : (keep : World → Bool) (n : ℕ) (p : Place) (schedule : List Move) → IsBadAt keep n p schedule →
    ((other : List Move) → IsSchedule other p → length other < n → KeepsAfter keep p other) → IsFirst keep n p schedule
first_at keep n p schedule bad shorter = grind (arith, nat_tests)

found_before : (keep : World → Bool) (n : ℕ) (p : Place) (schedule : List Move) → IsFirst keep n p schedule → IsFirst keep (suc n) p schedule
found_before keep n p schedule first = record { bad = first.bad; within = let within : length schedule ≤ n = first.within in omega arith }

first_by : (keep : World → Bool) (n : ℕ) (p : Place) (schedule : List Move) (o : Option (List Move)) → first_bad keep n p ≡ o →
    ((ms : List Move) → first_bad keep n p ≡ Some ms → IsFirst keep n p ms) → option_or o (bad_at keep (suc n) p) ≡ Some schedule →
    IsFirst keep (suc n) p schedule
first_by keep n p schedule None is fewer found =
    first_at keep (suc n) p schedule (is_bad_at keep (suc n) p schedule found) (λ other s less. none_bad_up_to keep n p is other s (omega arith))
first_by keep n p schedule (Some ms) is fewer found = found_before keep n p schedule (fewer schedule (is ∙ found))

is_first : (keep : World → Bool) (n : ℕ) (p : Place) (schedule : List Move) → first_bad keep n p ≡ Some schedule → IsFirst keep n p schedule
is_first keep zero p schedule found =
    first_at keep zero p schedule (is_bad_at keep zero p schedule found) (λ other s less. absurd (omega arith))
is_first keep (suc n) p schedule found =
    first_by keep n p schedule (first_bad keep n p) refl (λ ms is. is_first keep n p ms is) found

found_by : (keep : World → Bool) (n : ℕ) (p : Place) (schedule : List Move) (o : Option (List Move)) → first_bad keep n p ≡ o →
    IsSchedule schedule p → length schedule ≤ n → keep (place_after schedule p).world ≡ false → (first : List Move) × (first_bad keep n p ≡ Some first)
found_by keep n p schedule o is s within bad = grind (arith, nat_tests, none_bad_up_to)

pub first_bad_is_first : FirstBadIsFirst
first_bad_is_first = record {
  none = none_bad_up_to;
  first = λ keep n p schedule found. (is_first keep n p schedule found).bad;
  within = λ keep n p schedule found. (is_first keep n p schedule found).within;
  found = λ keep n p schedule s within bad. found_by keep n p schedule (first_bad keep n p) refl s within bad;
}

-- ---- rules

pub rules_end : RulesEnd
rules_end program w =
    let whole = whole_lookups_end (state_now w.standing.history) program.statements (λ key. refl) in
    (whole.0.end, ap end_of whole.1)
