-- When schedules keep a rule, and the first one that does not.
use Rattle.std.specs.Prelude.{◌≡◌, ◌↔◌, ◌≤◌, ℕ, zero, suc, Bool, true, false, if◌then◌else◌, List, [], ◌∷◌, length, Option, None, Some, option_map}
use Rattle.std.specs.List.{list_any}
use Rattle.std.specs.Option.{option_or}
use Rattle.stm_program.specs.Syntax.{ProgramTree}
use Rattle.stm_steps.specs.declared.run.End.{End}
use Rattle.stm_steps.specs.declared.run.End.TheVariants.{Done, Aborted, Faulted}
use Rattle.stm_steps.specs.declared.run.Answered.{Answered}
use Rattle.stm_steps.specs.declared.run.Answered.TheVariants.{Ended, Wants}
use Rattle.stm_meaning.specs.Meaning.{run_over}
use Rattle.stm_compile.specs.Answers.{state_now}
use Rattle.stm_world.specs.World.{World}
use Rattle.stm_schedules.specs.declared.moves.Move.{Move}
use Rattle.stm_schedules.specs.Places.{Place, moves, moved}
use Rattle.stm_schedules.specs.Schedules.{place_after, IsSchedule, IsLongest, IsEarlier}

-- ---- a rule, which is a program

-- the end of a run, where it came to one
abbrev pub end_of : Answered → Option End
end_of (Ended run) = Some run.end
end_of (Wants key trace) = None

-- the end of a program that is run alone on the state of a world
abbrev pub end_alone : ProgramTree → World → Option End
end_alone program w = end_of (run_over (state_now w.standing.history) program.statements)

abbrev pub is_done : Option End → Bool
is_done None = false
is_done (Some Done) = true
is_done (Some (Aborted text)) = false
is_done (Some (Faulted fault)) = false

-- the state of a world keeps the rule: the program that is run alone on it comes to its last statement
abbrev pub keeps : ProgramTree → World → Bool
keeps program w = is_done (end_alone program w)

-- ---- schedules that keep it

-- the place after a schedule keeps the rule
abbrev pub KeepsAfter : (World → Bool) → Place → List Move → Type 0
KeepsAfter keep p schedule = keep (place_after schedule p).world ≡ true

-- every schedule keeps it
abbrev pub AllKeep : (World → Bool) → Place → Type 0
AllKeep keep p = (schedule : List Move) → IsSchedule schedule p → KeepsAfter keep p schedule

-- every schedule of up to n moves keeps it
abbrev pub AllKeepUpTo : (World → Bool) → ℕ → Place → Type 0
AllKeepUpTo keep n p = (schedule : List Move) → IsSchedule schedule p → length schedule ≤ n → KeepsAfter keep p schedule

-- a schedule that does not keep it, and the first such one in the order in which schedules are looked at
pub record IsFirstBad (keep : World → Bool) (p : Place) (schedule : List Move) : Type 0 where
  pub is_schedule : IsSchedule schedule p
  pub is_bad : keep (place_after schedule p).world ≡ false
  pub earlier_keep : (other : List Move) → IsSchedule other p → IsEarlier other schedule → KeepsAfter keep p other

-- ---- the same, computed

-- the first thing that is found at one of these
abbrev pub first_of : {A B : Type 0} → (A → Option B) → List A → Option B
first_of f [] = None
first_of f (x ∷ xs) = option_or (f x) (first_of f xs)

-- the first schedule of exactly n moves that does not keep the rule
abbrev pub bad_at : (World → Bool) → ℕ → Place → Option (List Move)
bad_at keep zero p = if keep p.world then None else Some []
bad_at keep (suc n) p = first_of (λ m. option_map (λ (ms : List Move). m ∷ ms) (bad_at keep n (moved m p))) (moves p)

-- the first schedule of up to n moves that does not keep it
abbrev pub first_bad : (World → Bool) → ℕ → Place → Option (List Move)
first_bad keep zero p = bad_at keep zero p
first_bad keep (suc n) p = option_or (first_bad keep n p) (bad_at keep (suc n) p)

-- whether some schedule has n moves
abbrev pub goes_on : ℕ → Place → Bool
goes_on zero p = true
goes_on (suc n) p = list_any (λ m. goes_on n (moved m p)) (moves p)

-- ---- laws

-- Where none is found, all schedules of up to n moves keep the rule; one that is found is the first; and where one of up to n moves does
-- not keep the rule, one is found.
pub record FirstBadIsFirst : Type 0 where
  pub none : (keep : World → Bool) (n : ℕ) (p : Place) → first_bad keep n p ≡ None → AllKeepUpTo keep n p
  pub first : (keep : World → Bool) (n : ℕ) (p : Place) (schedule : List Move) → first_bad keep n p ≡ Some schedule → IsFirstBad keep p schedule
  pub within : (keep : World → Bool) (n : ℕ) (p : Place) (schedule : List Move) → first_bad keep n p ≡ Some schedule → length schedule ≤ n
  pub found : (keep : World → Bool) (n : ℕ) (p : Place) (schedule : List Move) → IsSchedule schedule p → length schedule ≤ n
      → keep (place_after schedule p).world ≡ false → (first : List Move) × (first_bad keep n p ≡ Some first)

-- Some schedule has n moves exactly where that is computed; where none has one more, n is the length of the longest; and what all schedules
-- of up to that length keep, all keep.
pub record LongestIsAll : Type 0 where
  pub some_as_long : (n : ℕ) (p : Place) → (goes_on n p ≡ true) ↔ ((schedule : List Move) × IsSchedule schedule p × (length schedule ≡ n))
  pub longest : (n : ℕ) (p : Place) → goes_on n p ≡ true → goes_on (suc n) p ≡ false → IsLongest n p
  pub all : (keep : World → Bool) (n : ℕ) (p : Place) → IsLongest n p → AllKeepUpTo keep n p → AllKeep keep p

-- A program that is run alone on a state comes to an end.
abbrev pub RulesEnd : Type 0
RulesEnd = (program : ProgramTree) (w : World) → (end : End) × (end_alone program w ≡ Some end)
