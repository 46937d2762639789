-- The outcomes that were found among schedules of greater and greater length.
use Rattle.std.proofs.Common.{◌≡◌, ◌∙◌, ◌↔◌, ◌⊎◌, inl, inr, ℕ, suc, true, false, List, [], sym, ap, subst}
use Rattle.std.specs.Prelude.{Contains}
use Rattle.stm_schedules.specs.declared.outcome.Outcome.{Outcome}
use Rattle.stm_schedules.specs.Places.{Place}
use Rattle.stm_schedules.specs.Schedules.{IsLongest}
use Rattle.stm_schedules.specs.Keeping.{goes_on, LongestIsAll}
use Rattle.stm_schedules.specs.Outcomes.{Ends, outcomes_at, outcomes_up_to, OutcomesAreThose}
use Rattle.stm_explore.specs.Gathering.{Gathers}
use Rattle.stm_explore.specs.Explored.{AreAllOutcomes, AreOutcomesUpTo}
use Rattle.stm_explore.proofs.GatherLemmas.{gathers_then, none_in_nothing}

-- the outcomes of one move more
pub found_next : (n k : ℕ) (p : Place) (ends : Ends) (start found next : List Outcome) → k ≡ suc n → Gathers (outcomes_up_to n p ends) start found →
    Gathers (outcomes_at k p ends) found next → Gathers (outcomes_up_to k p ends) start next
found_next n k p ends start found next is so_far more =
    subst (λ (j : ℕ). Gathers (outcomes_at j p ends) found next → Gathers (outcomes_up_to j p ends) start next) (sym is)
    (λ m. gathers_then (outcomes_up_to n p ends) (outcomes_at (suc n) p ends) start found next so_far m) more

found_one : (outcomes found : List Outcome) (it : Outcome) → Gathers outcomes [] found → Contains found it ↔ Contains outcomes it
found_one outcomes found it gathers = (λ c. there ((gathers.each it).0 c), λ c. (gathers.each it).1 (inr c))
  where
    there : Contains (let none : List Outcome = [] in none) it ⊎ Contains outcomes it → Contains outcomes it
    there (inl none) = absurd (none_in_nothing it none)
    there (inr c) = c

both : {A B C : Type 0} → (A ↔ B) → (B ↔ C) → A ↔ C
both first second = (λ a. second.0 (first.0 a), λ c. first.1 (second.1 c))

-- where no schedule is longer, these are all
pub found_all : (those : OutcomesAreThose) (all : LongestIsAll) (n : ℕ) (p : Place) (ends : Ends) (found : List Outcome) →
    Gathers (outcomes_up_to n p ends) [] found → goes_on n p ≡ true → goes_on (suc n) p ≡ false → AreAllOutcomes p ends found
found_all those all n p ends found gathers as_long no_longer =
    let longest : IsLongest n p = all.longest n p as_long no_longer in
    (λ it. both (found_one (outcomes_up_to n p ends) found it gathers) (those.all n p ends it longest), gathers.distinct tt)

-- and where one is, those of up to as many moves
pub found_so_far : (those : OutcomesAreThose) (n : ℕ) (p : Place) (ends : Ends) (found : List Outcome) → Gathers (outcomes_up_to n p ends) [] found →
    goes_on (suc n) p ≡ true → AreOutcomesUpTo n p ends found
found_so_far those n p ends found gathers more =
    (λ it. both (found_one (outcomes_up_to n p ends) found it gathers) (those.up_to n p ends it), gathers.distinct tt, more)

-- no schedule has one move more: those found after it are all
pub all_found : (those : OutcomesAreThose) (all : LongestIsAll) (n k : ℕ) (p : Place) (ends : Ends) (found next : List Outcome) → k ≡ suc n →
    Gathers (outcomes_up_to n p ends) [] found → goes_on (suc n) p ≡ true → Gathers (outcomes_at k p ends) found next → goes_on (suc k) p ≡ false →
    AreAllOutcomes p ends next
all_found those all n k p ends found next is so_far more gathers no_longer =
    found_all those all k p ends next (found_next n k p ends [] found next is so_far gathers) (ap (λ (j : ℕ). goes_on j p) is ∙ more) no_longer
