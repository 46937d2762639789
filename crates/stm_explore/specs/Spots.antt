-- The places of a scenario, as a search goes through them.
use Rattle.std.specs.Prelude.{◌≡◌, ℕ, suc, Bool, true, List, [], ◌∷◌, drop, Option, None, Some, slice_get}
use Rattle.stm_program.specs.Syntax.{ProgramTree}
use Rattle.stm_events.specs.declared.event.WorldEvent.{WorldEvent}
use Rattle.stm_world.specs.World.{World, world_after}
use Rattle.stm_alike.specs.Seen.{seen_world}
use Rattle.stm_schedules.specs.declared.moves.Move.{Move}
use Rattle.stm_schedules.specs.declared.moves.Move.TheVariants.{Step as StepOf, Other}
use Rattle.stm_schedules.specs.declared.outcome.Outcome.{Outcome}
use Rattle.stm_schedules.specs.Places.{Place, moves, event_of}
use Rattle.stm_schedules.specs.Keeping.{keeps}
use Rattle.stm_schedules.specs.Outcomes.{ends_moved, shown}
use Rattle.stm_visited.specs.Search.{Steps}
use Rattle.stm_explore.specs.declared.places.WorldPlace.{WorldPlace}
use Rattle.stm_explore.specs.declared.places.ReportedPlace.{ReportedPlace}

-- how many of the others' events were taken after their next one, where these are left
abbrev pub taken_next : List WorldEvent → ℕ → ℕ
taken_next [] taken = taken
taken_next (e ∷ es) taken = suc taken

-- how many were taken after a move
abbrev pub taken_after : Move → List WorldEvent → ℕ → ℕ
taken_after (StepOf id) left taken = taken
taken_after Other left taken = taken_next left taken

-- the place that this is
abbrev pub place_of : List WorldEvent → WorldPlace → Place
place_of others p = record { world = p.world; others = drop p.taken others }

-- where a move leads to
abbrev pub after : List WorldEvent → Move → WorldPlace → WorldPlace
after others m p = record {
  world = world_after (event_of m (drop p.taken others)) p.world;
  taken = taken_after m (drop p.taken others) p.taken;
}

abbrev pub reported_after : List WorldEvent → Move → ReportedPlace → ReportedPlace
reported_after others m p = record { at = after others m p.at; ends = ends_moved m (place_of others p.at) p.ends }

-- ---- alike places

-- what the steps from a place can see
abbrev pub seen_place : Place → Place
seen_place p = record { world = seen_world p.world; others = p.others }

-- the steps from two places can see the same
abbrev pub AreSame : List WorldEvent → WorldPlace → WorldPlace → Type 0
AreSame others p q = seen_place (place_of others p) ≡ seen_place (place_of others q)

-- and the same is known of their runners' ends
abbrev pub ShowTheSame : List WorldEvent → ReportedPlace → ReportedPlace → Type 0
ShowTheSame others p q = AreSame others p.at q.at × (p.ends ≡ q.ends)

-- ---- what a search goes through

-- where a rule is looked at
abbrev pub rule_steps : ProgramTree → List WorldEvent → Steps WorldPlace Move (Unit {0})
rule_steps rule others = record {
  moves = λ p. moves (place_of others p);
  after = after others;
  keeps = λ p. keeps rule p.world;
  shows = λ p. tt {0};
}

-- a rule is kept in a world, if there is one
abbrev pub keeps_if_there : Option ProgramTree → World → Bool
keeps_if_there None w = true
keeps_if_there (Some rule) w = keeps rule w

-- where the rule of a number among these is looked at
abbrev pub rules_steps : List ProgramTree → List WorldEvent → ℕ → Steps WorldPlace Move (Unit {0})
rules_steps rules others n = record {
  moves = λ p. moves (place_of others p);
  after = after others;
  keeps = λ p. keeps_if_there (slice_get rules n) p.world;
  shows = λ p. tt {0};
}

-- where outcomes are gathered
abbrev pub outcome_steps : List WorldEvent → Steps ReportedPlace Move Outcome
outcome_steps others = record {
  moves = λ p. moves (place_of others p.at);
  after = reported_after others;
  keeps = λ p. true;
  shows = λ p. shown p.at.world p.ends;
}
