use Rattle.std.proofs.lemmas.List.Elements.{contains_decides, Decides-contains}
use Rattle.stm_schedules.proofs.SameOutcomes.{outcome_decides}
use Rattle.stm_schedules.specs.contracts.outcome.OutcomePartialEq.TheImpl.{eq-value}
use Rattle.stm_explore.proofs.found.is_found.Goals as goal

pub returns : goal.returns
returns c =
    Decides-contains c.args.found.now c.args.it.now c.contains.result
    (contains_decides eq-value.it outcome_decides c.args.found.now c.args.it.now c.contains.result c.contains.ensures.cases)
