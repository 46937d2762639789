use Rattle.std.proofs.Common.{◌∙◌, List, sym, ap, subst}
use Rattle.std.proofs.lemmas.Result.{IfOk-weaker}
use Rattle.stm_events.specs.declared.event.WorldEvent.{WorldEvent}
use Rattle.stm_schedules.specs.declared.moves.Move.{Move}
use Rattle.stm_schedules.specs.declared.outcome.Outcome.{Outcome}
use Rattle.stm_schedules.specs.Places.{moves}
use Rattle.stm_visited.specs.Layers.{AreEnough}
use Rattle.stm_visited.proofs.LayerLemmas.{all_are_enough}
use Rattle.stm_explore.specs.declared.places.ReportedPlace.{ReportedPlace}
use Rattle.stm_explore.specs.Spots.{outcome_steps}
use Rattle.stm_explore.proofs.FirstSteps.{fetch_is_enough}
use Rattle.stm_explore.proofs.gathering.GatheredSystem.enough.Goals as goal

pub returns-in-None : goal.returns-in-None
returns-in-None c =
    IfOk-weaker c.moves_at.result _ _
    (λ all is rule. all_are_enough (outcome_steps c.args.self.now.others.now) c.args.place.now all.items
    (is ∙ ap (λ (rest : List WorldEvent). moves (record { world = c.args.place.now.at.world; others = rest })) c.rest_of-rest.ensures)) c.moves_at.ensures

pub returns-in-Some : goal.returns-in-Some
returns-in-Some c =
    IfOk-weaker c.step_alone.result _ _
    (λ few is rule. subst (AreEnough ReportedPlace Move Outcome (outcome_steps c.args.self.now.others.now) c.args.place.now) (sym is)
    (fetch_is_enough c.args.self.now.others.now c.in-Some.runner c.args.place.now c.in-Some.ensures.at_base (sym c.rest_of-rest.ensures ∙ c.in-Some.ensures.none_left)))
    c.step_alone.ensures
