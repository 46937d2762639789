-- A serial run that is made in a world, step by step, and what a rule comes to by serial runs.
use Rattle.std.specs.Prelude.{◌≡◌, true, false, List, [], ◌∷◌, ◌++◌, Some}
use Rattle.std.specs.List.{AllZip}
use Rattle.stm_program.specs.Syntax.{ProgramTree}
use Rattle.stm_steps.specs.declared.run.End.{End}
use Rattle.stm_events.specs.declared.event.WorldEvent.{WorldEvent}
use Rattle.stm_world.specs.World.{World, world_after}
use Rattle.stm_schedules.specs.declared.moves.Move.{Move}
use Rattle.stm_schedules.specs.Places.{Place}
use Rattle.stm_schedules.specs.Schedules.{place_after, IsSchedule}
use Rattle.stm_schedules.specs.Keeping.{is_done, end_alone, keeps, AllKeep}
use Rattle.stm_schedules.specs.Merges.{IsMerge}
use Rattle.stm_serial_search.specs.declared.judging.Judged.{Judged}
use Rattle.stm_serial_search.specs.declared.judging.Judged.TheVariants.{Always, Broken, Undecided, NotAsked}

-- these moves are a schedule, which leads from a place to this world with these events of the others left
pub record LeadsTo (p : Place) (made : List Move) (w : World) (others : List WorldEvent) : Type 0 where
  pub is_schedule : IsSchedule made p
  pub place : place_after made p ≡ record { world = w; others = others }

-- moves that lead to a world were gone on with, and lead to another
abbrev pub GoesOn : List Move → World → List WorldEvent → List Move → World → List WorldEvent → Type 0
GoesOn before w others after next left = (p : Place) → LeadsTo p before w others → LeadsTo p after next left

-- the same where the others bring nothing
abbrev pub StepsOn : List Move → World → List Move → World → Type 0
StepsOn before w after next = (others : List WorldEvent) → GoesOn before w others after next others

-- the same, whatever the others have left
abbrev pub HasLed : List Move → World → List WorldEvent → List Move → World → Type 0
HasLed before w others after next = (p : Place) → LeadsTo p before w others → (left : List WorldEvent) × LeadsTo p after next left

-- a run that comes to this end has not come to its last statement
abbrev pub IsNotDone : End → Type 0
IsNotDone end = is_done (Some end) ≡ false

-- a schedule after which the rule is not kept, and the end that its program comes to there
pub record IsBreak (rule : ProgramTree) (p : Place) (schedule : List Move) (end : End) : Type 0 where
  pub is_schedule : IsSchedule schedule p
  pub is_bad : keeps rule (place_after schedule p).world ≡ false
  pub ends : end_alone rule (place_after schedule p).world ≡ Some end

-- Every schedule of any length keeps the rule, and so do steps of any runners merged with a prefix of what the others do; or this schedule does
-- not; or neither was found.
abbrev pub IsJudged : ProgramTree → Place → Judged → Type 0
IsJudged rule p Always =
    AllKeep (keeps rule) p × ((events : List WorldEvent) → IsMerge events p.others → keeps rule (world_after events p.world) ≡ true)
IsJudged rule p (Broken found) = IsBreak rule p found.moves found.end
IsJudged rule p Undecided = Unit {0}
IsJudged rule p NotAsked = Unit {0}

-- so it is of each of these rules
abbrev pub AreJudged : List ProgramTree → Place → List Judged → Type 0
AreJudged rules p judged = AllZip (λ rule. IsJudged rule p) rules judged

-- a rule, if it is not decided
abbrev pub if_undecided : ProgramTree → Judged → List ProgramTree
if_undecided rule Undecided = rule ∷ []
if_undecided rule known = []

-- those of these rules that are not decided
abbrev pub undecided : List ProgramTree → List Judged → List ProgramTree
undecided [] judged = []
undecided (rule ∷ rules) [] = []
undecided (rule ∷ rules) (j ∷ judged) = if_undecided rule j ++ undecided rules judged

-- a rule that is not decided is kept
abbrev pub or_always : Judged → Judged
or_always Undecided = Always
or_always known = known
