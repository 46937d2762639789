-- The places of a scenario where the rule of a number is looked at are those where it alone is.
use Rattle.std.proofs.Common.{◌≡◌, ℕ, List, Option, Some, slice_get, subst}
use Rattle.stm_program.specs.Syntax.{ProgramTree}
use Rattle.stm_events.specs.declared.event.WorldEvent.{WorldEvent}
use Rattle.stm_schedules.specs.declared.moves.Move.{Move}
use Rattle.stm_schedules.specs.declared.outcome.Outcome.{Outcome}
use Rattle.stm_schedules.specs.Places.{moves}
use Rattle.stm_schedules.specs.Outcomes.{shown}
use Rattle.stm_visited.specs.Search.{Steps}
use Rattle.stm_visited.specs.declared.visited.Visited.{Visited}
use Rattle.stm_visited.specs.Answers.{IsVisited, OpenIsFar}
use Rattle.stm_explore.specs.declared.places.WorldPlace.{WorldPlace}
use Rattle.stm_explore.specs.declared.places.ReportedPlace.{ReportedPlace}
use Rattle.stm_explore.specs.declared.waits.Wait.{Wait}
use Rattle.stm_explore.specs.declared.asking.When.{When}
use Rattle.stm_explore.specs.Spots.{place_of, after, reported_after, keeps_if_there, rule_steps, rules_steps}
use Rattle.stm_explore.specs.Waiting.{allowed, asks_if_there, waiting_steps, waiting_rules_steps}

abbrev steps_of : List WorldEvent → Option ProgramTree → Steps WorldPlace Move (Unit {0})
steps_of others rule = record {
  moves = λ p. moves (place_of others p);
  after = after others;
  keeps = λ p. keeps_if_there rule p.world;
  shows = λ p. tt {0};
}

pub visited_one : (rules : List ProgramTree) (others : List WorldEvent) (n : ℕ) (rule : ProgramTree) (p : WorldPlace) (v : Visited Move) → slice_get rules n ≡ Some rule →
    IsVisited (rules_steps rules others n) p v → IsVisited (rule_steps rule others) p v
visited_one rules others n rule p v is known = subst (λ (o : Option ProgramTree). IsVisited (steps_of others o) p v) is known

pub far_one : (rules : List ProgramTree) (others : List WorldEvent) (n : ℕ) (rule : ProgramTree) (p : WorldPlace) (made : ℕ) (v : Visited Move) → slice_get rules n ≡ Some rule →
    OpenIsFar (rules_steps rules others n) p made v → OpenIsFar (rule_steps rule others) p made v
far_one rules others n rule p made v is far = subst (λ (o : Option ProgramTree). OpenIsFar (steps_of others o) p made v) is far

abbrev waiting_of : List Wait → When → List WorldEvent → Option ProgramTree → Steps ReportedPlace Move Outcome
waiting_of waits when others rule = record {
  moves = λ p. allowed waits p.ends (place_of others p.at);
  after = reported_after others;
  keeps = λ p. asks_if_there when rule (allowed waits p.ends (place_of others p.at)) p.at.world.standing.history p.ends;
  shows = λ p. shown p.at.world p.ends;
}

pub waited_one : (waits : List Wait) (when : When) (rules : List ProgramTree) (others : List WorldEvent) (n : ℕ) (rule : ProgramTree) (p : ReportedPlace) (v : Visited Move) →
    slice_get rules n ≡ Some rule → IsVisited (waiting_rules_steps waits when rules others n) p v → IsVisited (waiting_steps waits when rule others) p v
waited_one waits when rules others n rule p v is known = subst (λ (o : Option ProgramTree). IsVisited (waiting_of waits when others o) p v) is known
