-- What a search answers.
use Rattle.std.specs.Prelude.{◌≡◌, ◌<◌, ◌≤◌, ℕ, suc, true, false, List, length, get_or, Option, None, Some}
use Rattle.stm_visited.specs.declared.breaks.Ending.{Ending}
use Rattle.stm_visited.specs.declared.breaks.Ending.TheVariants as ending
use Rattle.stm_visited.specs.declared.visited.Visited.{Visited}
use Rattle.stm_visited.specs.declared.visited.Visited.TheVariants.{Always, Broken, Open}
use Rattle.stm_visited.specs.Search.{Steps, first_bad, goes_on, count_up_to}

-- No schedule of up to the length of the longest breaks the rule; or this is the first one that does; or none of up to this length does, and some
-- schedule is longer.
abbrev pub IsVisited : {P M O : Type 0} → Steps P M O → P → Visited M → Type 0
IsVisited s p (Always longest) = (first_bad s longest p ≡ None) × (goes_on s longest p ≡ true) × (goes_on s (suc longest) p ≡ false)
IsVisited s p (Broken moves) = first_bad s (length moves) p ≡ Some moves
IsVisited s p (Open kept) = (first_bad s kept p ≡ None) × (goes_on s (suc kept) p ≡ true)

-- the budget: an answer is open only where nothing is left of it
abbrev pub OpenIsSpent : {M : Type 0} → ℕ → Visited M → Type 0
OpenIsSpent left (Always longest) = Unit {0}
OpenIsSpent left (Broken moves) = Unit {0}
OpenIsSpent left (Open kept) = left ≡ 0

-- and it is so far that the schedules of up to one move more are no fewer than the moves that were made: a search that makes these many does not answer a
-- smaller length
abbrev pub OpenIsFar : {P M O : Type 0} → Steps P M O → P → ℕ → Visited M → Type 0
OpenIsFar s p made (Always longest) = Unit {0}
OpenIsFar s p made (Broken moves) = Unit {0}
OpenIsFar s p made (Open kept) = made ≤ count_up_to s (suc kept) p

-- ---- several rules

-- so is each of these with its number
abbrev pub EachIs : {A : Type 0} → (ℕ → A → Type 0) → List A → Type 0
EachIs {A} Q xs = (n : ℕ) (d : A) → n < length xs → Q n (get_or xs n d)

-- the answer about a rule at the end of a search, by the schedule that was found to break it
abbrev pub answer_of : {M : Type 0} → Ending → Option (List M) → Visited M
answer_of end (Some moves) = Broken moves
answer_of (ending.Always longest) None = Always longest
answer_of (ending.Open kept) None = Open kept
