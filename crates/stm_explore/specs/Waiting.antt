-- Runners that wait for others, and what a search through their schedules answers.
use Rattle.std.specs.Prelude.{◌≡◌, ◌<◌, ◌≤◌, ℕ, suc, ◌-◌, nat_eq, Bool, true, false, not, ◌||◌, List, [], ◌∷◌, length, filter, Option, None, Some, slice_get}
use Rattle.std.proofs.Common.{refl, ap, ◌∙◌}
use Rattle.std.specs.List.{list_all}
use Rattle.stm_history.specs.History.{History}
use Rattle.stm_program.specs.Syntax.{ProgramTree}
use Rattle.stm_events.specs.declared.event.WorldEvent.{WorldEvent}
use Rattle.stm_schedules.specs.declared.moves.Move.{Move}
use Rattle.stm_schedules.specs.declared.moves.Move.TheVariants.{Step as StepOf, Other}
use Rattle.stm_schedules.specs.declared.outcome.Outcome.{Outcome}
use Rattle.stm_schedules.specs.declared.outcome.RunnerEnd.{RunnerEnd}
use Rattle.stm_schedules.specs.declared.outcome.RunnerEnd.TheVariants.{Committed}
use Rattle.stm_schedules.specs.Places.{Place, moves, moved}
use Rattle.stm_schedules.specs.Schedules.{place_after, IsSchedule}
use Rattle.stm_schedules.specs.Outcomes.{Ends, ends_moved, ends_after, shown}
use Rattle.stm_visited.specs.Search.{Steps}
use Rattle.stm_visited.specs.Alike.{Respects}
use Rattle.stm_explore.specs.declared.exploring.Explored.{Explored}
use Rattle.stm_explore.specs.declared.exploring.Explored.TheVariants.{Always, Broken, Open}
use Rattle.stm_explore.specs.declared.places.ReportedPlace.{ReportedPlace}
use Rattle.stm_explore.specs.declared.waits.Wait.{Wait}
use Rattle.stm_explore.specs.declared.asking.When.{When}
use Rattle.stm_explore.specs.Asked.{asks, end_for}
use Rattle.stm_explore.specs.Spots.{place_of, reported_after, ShowTheSame}
use Rattle.stm_explore.specs.AlikeSpots.{outcomes_respected}

-- ---- which moves are allowed

abbrev pub has_committed : RunnerEnd → Bool
has_committed (Committed output) = true
has_committed other = false

-- the wait for a runner is over: it has ended, and committed, where it is to
abbrev pub is_over : Bool → Option RunnerEnd → Bool
is_over committed None = false
is_over committed (Some end) = not committed || has_committed end

-- the same of one for a runner of which this is known, if there is one
abbrev pub is_over_at : Bool → Option (Option RunnerEnd) → Bool
is_over_at committed None = false
is_over_at committed (Some known) = is_over committed known

-- a wait keeps no other runner from its steps, and once it is over none
abbrev pub lets : Ends → ℕ → Wait → Bool
lets ends runner wait = not (nat_eq wait.runner runner) || is_over_at wait.committed (slice_get ends (wait.first - 1))

-- a step is allowed where every wait lets its runner; the others wait for no one
abbrev pub is_allowed : List Wait → Ends → Move → Bool
is_allowed waits ends (StepOf runner) = list_all (lets ends runner) waits
is_allowed waits ends Other = true

-- the moves of a schedule are allowed where they are made
abbrev pub AreAllowed : List Wait → List Move → Place → Ends → Type 0
AreAllowed waits [] p ends = Unit {0}
AreAllowed waits (m ∷ ms) p ends = (is_allowed waits ends m ≡ true) × AreAllowed waits ms (moved m p) (ends_moved m p ends)

-- a schedule in which the runners wait
abbrev pub IsPatient : List Wait → List Move → Place → Ends → Type 0
IsPatient waits schedule p ends = IsSchedule schedule p × AreAllowed waits schedule p ends

-- ---- what a search goes through

-- the moves that are allowed at a place
abbrev pub allowed : List Wait → Ends → Place → List Move
allowed waits ends p = filter (is_allowed waits ends) (moves p)

abbrev pub waiting_steps : List Wait → When → ProgramTree → List WorldEvent → Steps ReportedPlace Move Outcome
waiting_steps waits when rule others = record {
  moves = λ p. allowed waits p.ends (place_of others p.at);
  after = reported_after others;
  keeps = λ p. asks when rule (allowed waits p.ends (place_of others p.at)) p.at.world.standing.history p.ends;
  shows = λ p. shown p.at.world p.ends;
}

-- a rule is kept, if there is one
abbrev pub asks_if_there : When → Option ProgramTree → List Move → History → Ends → Bool
asks_if_there when None moves h ends = true
asks_if_there when (Some rule) moves h ends = asks when rule moves h ends

-- where the rule of a number among these is asked
abbrev pub waiting_rules_steps : List Wait → When → List ProgramTree → List WorldEvent → ℕ → Steps ReportedPlace Move Outcome
waiting_rules_steps waits when rules others n = record {
  moves = λ p. allowed waits p.ends (place_of others p.at);
  after = reported_after others;
  keeps = λ p. asks_if_there when (slice_get rules n) (allowed waits p.ends (place_of others p.at)) p.at.world.standing.history p.ends;
  shows = λ p. shown p.at.world p.ends;
}

-- alike places, of whose ends the same is known, have the same moves
pub waiting_respected : (waits : List Wait) (when : When) (rules : List ProgramTree) (others : List WorldEvent) (n : ℕ) →
    Respects ReportedPlace Move Outcome (waiting_rules_steps waits when rules others n) (ShowTheSame others)
waiting_respected waits when rules others n = record {
  moves = same_moves;
  after = (outcomes_respected others).after;
  keeps = λ p q same. same_asked (slice_get rules n) p q same;
  shows = (outcomes_respected others).shows;
} where
  same_moves : (p q : ReportedPlace) → ShowTheSame others p q → allowed waits p.ends (place_of others p.at) ≡ allowed waits q.ends (place_of others q.at)
  same_moves p q same =
      ap (λ (known : Ends). allowed waits known (place_of others p.at)) same.1
      ∙ ap (filter (is_allowed waits q.ends)) ((outcomes_respected others).moves p q same)

  same_asked : (rule : Option ProgramTree) (p q : ReportedPlace) → ShowTheSame others p q →
      asks_if_there when rule (allowed waits p.ends (place_of others p.at)) p.at.world.standing.history p.ends
      ≡ asks_if_there when rule (allowed waits q.ends (place_of others q.at)) q.at.world.standing.history q.ends
  same_asked None p q same = refl
  same_asked (Some rule) p q same =
      ap (λ (ms : List Move). asks when rule ms p.at.world.standing.history p.ends) (same_moves p q same)
      ∙ ap (λ (v : Place). asks when rule (allowed waits q.ends (place_of others q.at)) v.world.standing.history p.ends) same.0
      ∙ ap (asks when rule (allowed waits q.ends (place_of others q.at)) q.at.world.standing.history) same.1

-- ---- what it answers

-- whether the place after a schedule keeps the rule
abbrev pub kept_after : List Wait → When → ProgramTree → List Move → Place → Ends → Bool
kept_after waits when rule schedule p ends =
    asks when rule (allowed waits (ends_after schedule p ends) (place_after schedule p)) (place_after schedule p).world.standing.history
    (ends_after schedule p ends)

-- every schedule of up to n moves in which the runners wait keeps the rule
abbrev pub PatientKeepUpTo : List Wait → When → ProgramTree → ℕ → Place → Ends → Type 0
PatientKeepUpTo waits when rule n p ends =
    (schedule : List Move) → IsPatient waits schedule p ends → length schedule ≤ n → kept_after waits when rule schedule p ends ≡ true

-- some schedule of n moves is one in which the runners wait
abbrev pub SomePatient : List Wait → ℕ → Place → Ends → Type 0
SomePatient waits n p ends = (schedule : List Move) × IsPatient waits schedule p ends × (length schedule ≡ n)

-- this schedule does not keep the rule, and each shorter one in which the runners wait does
pub record IsShortestBad (waits : List Wait) (when : When) (rule : ProgramTree) (p : Place) (ends : Ends) (schedule : List Move) : Type 0 where
  pub is_patient : IsPatient waits schedule p ends
  pub is_bad : kept_after waits when rule schedule p ends ≡ false
  pub shorter_keep : (other : List Move) → IsPatient waits other p ends → length other < length schedule → kept_after waits when rule other p ends ≡ true

-- Every schedule in which the runners wait keeps the rule, and this is the length of the longest; or this one does not, with the end that the program
-- comes to after it; or every one of up to this length does, and some is longer.
abbrev pub IsExploredPatiently : List Wait → When → ProgramTree → Place → Ends → Explored → Type 0
IsExploredPatiently waits when rule p ends (Always longest) =
    PatientKeepUpTo waits when rule longest p ends × SomePatient waits longest p ends
    × ((schedule : List Move) → IsPatient waits schedule p ends → length schedule ≤ longest)
IsExploredPatiently waits when rule p ends (Broken schedule end) =
    IsShortestBad waits when rule p ends schedule
    × (end_for when rule (place_after schedule p).world.standing.history (ends_after schedule p ends) ≡ Some end)
IsExploredPatiently waits when rule p ends (Open kept) = PatientKeepUpTo waits when rule kept p ends × SomePatient waits (suc kept) p ends
