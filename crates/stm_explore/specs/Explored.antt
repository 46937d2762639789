-- What a search through every schedule answers.
use Rattle.std.specs.Prelude.{◌≡◌, ◌↔◌, ◌+◌, ◌<◌, ◌≤◌, ℕ, zero, suc, true, List, length, Option, None, Some, Contains}
use Rattle.stm_program.specs.Syntax.{ProgramTree}
use Rattle.stm_events.specs.declared.event.WorldEvent.{WorldEvent}
use Rattle.stm_world.specs.World.{world_after}
use Rattle.stm_schedules.specs.declared.outcome.Outcome.{Outcome}
use Rattle.stm_schedules.specs.Places.{Place, moves, moved}
use Rattle.stm_schedules.specs.Schedules.{place_after, IsLongest}
use Rattle.stm_schedules.specs.Keeping.{end_alone, keeps, AllKeep, AllKeepUpTo, IsFirstBad, goes_on}
use Rattle.stm_schedules.specs.Merges.{IsMerge}
use Rattle.stm_visited.specs.Search.{total}
use Rattle.stm_schedules.specs.Outcomes.{Ends, IsOutcome, IsOutcomeWithin}
use Rattle.stm_explore.specs.Gathering.{AreDistinct}
use Rattle.stm_explore.specs.Witnesses.{AreOrdered, AreWitnesses}
use Rattle.stm_explore.specs.declared.exploring.Explored.{Explored}
use Rattle.stm_explore.specs.declared.exploring.Explored.TheVariants.{Always, Broken, Open}
use Rattle.stm_explore.specs.declared.finding.Outcomes.{Outcomes}
use Rattle.stm_explore.specs.declared.finding.Outcomes.TheVariants.{Found, Open as OpenAt}

-- Every schedule keeps the rule, and this is the length of the longest; or this is the first one that does not, with the end that the
-- program comes to after it; or every schedule of up to this length keeps it, and some schedule is longer.
abbrev pub IsExplored : ProgramTree → Place → Explored → Type 0
IsExplored rule p (Always longest) = AllKeep (keeps rule) p × IsLongest longest p
IsExplored rule p (Broken schedule end) = IsFirstBad (keeps rule) p schedule × (end_alone rule (place_after schedule p).world ≡ Some end)
IsExplored rule p (Open kept) = AllKeepUpTo (keeps rule) kept p × (goes_on (suc kept) p ≡ true)

-- The same of steps of any runners, merged with a prefix of what the others do: whatever their number, or while they are fewer.
abbrev pub MergesAreKept : ProgramTree → Place → Explored → Type 0
MergesAreKept rule p (Always longest) = (events : List WorldEvent) → IsMerge events p.others → keeps rule (world_after events p.world) ≡ true
MergesAreKept rule p (Broken schedule end) =
    (events : List WorldEvent) → IsMerge events p.others → length events < length schedule → keeps rule (world_after events p.world) ≡ true
MergesAreKept rule p (Open kept) =
    (events : List WorldEvent) → IsMerge events p.others → length events ≤ kept → keeps rule (world_after events p.world) ≡ true

-- exactly the outcomes of whole schedules, each once
abbrev pub AreAllOutcomes : Place → Ends → List Outcome → Type 0
AreAllOutcomes p ends outcomes = ((it : Outcome) → Contains outcomes it ↔ IsOutcome p ends it) × AreDistinct outcomes

-- exactly the outcomes of whole schedules of up to n moves, each once, and some schedule is longer
abbrev pub AreOutcomesUpTo : ℕ → Place → Ends → List Outcome → Type 0
AreOutcomesUpTo n p ends outcomes =
    ((it : Outcome) → Contains outcomes it ↔ IsOutcomeWithin n p ends it) × AreDistinct outcomes × (goes_on (suc n) p ≡ true)

abbrev pub IsCollected : Place → Ends → List Outcome → Option ℕ → Type 0
IsCollected p ends found None = AreAllOutcomes p ends found
IsCollected p ends found (Some gone_through) = AreOutcomesUpTo gone_through p ends found

abbrev pub AreOutcomes : Place → Ends → Outcomes → Type 0
AreOutcomes p ends (Found outcomes schedules) = AreAllOutcomes p ends outcomes
AreOutcomes p ends (OpenAt gone_through outcomes schedules) = AreOutcomesUpTo gone_through p ends outcomes

-- each outcome has its witness, and no witness is longer than one behind it
abbrev pub OutcomesAreWitnessed : Place → Ends → Outcomes → Type 0
OutcomesAreWitnessed p ends (Found outcomes schedules) = AreWitnesses p ends outcomes schedules × AreOrdered schedules
OutcomesAreWitnessed p ends (OpenAt gone_through outcomes schedules) = AreWitnesses p ends outcomes schedules × AreOrdered schedules

-- ---- the budget: an answer is open only where nothing is left of it

abbrev pub OpenIsSpent : ℕ → Explored → Type 0
OpenIsSpent left (Always longest) = Unit {0}
OpenIsSpent left (Broken schedule end) = Unit {0}
OpenIsSpent left (Open kept) = left ≡ 0

abbrev pub OpenOutcomesAreSpent : ℕ → Outcomes → Type 0
OpenOutcomesAreSpent left (Found outcomes schedules) = Unit {0}
OpenOutcomesAreSpent left (OpenAt gone_through outcomes schedules) = left ≡ 0

-- ---- how far an open answer is

-- how many schedules from a place have exactly n moves
abbrev pub count_at : ℕ → Place → ℕ
count_at zero p = 1
count_at (suc n) p = total (λ m. count_at n (moved m p)) (moves p)

-- how many have at least one move, and up to n
abbrev pub count_up_to : ℕ → Place → ℕ
count_up_to zero p = 0
count_up_to (suc n) p = count_up_to n p + count_at (suc n) p

-- the schedules of up to one move more are no fewer than the moves that were made
abbrev pub OpenIsFar : Place → ℕ → Explored → Type 0
OpenIsFar p made (Always longest) = Unit {0}
OpenIsFar p made (Broken schedule end) = Unit {0}
OpenIsFar p made (Open kept) = made ≤ count_up_to (suc kept) p

abbrev pub OpenOutcomesAreFar : Place → ℕ → Outcomes → Type 0
OpenOutcomesAreFar p made (Found outcomes schedules) = Unit {0}
OpenOutcomesAreFar p made (OpenAt gone_through outcomes schedules) = made ≤ count_up_to (suc gone_through) p
