use Rattle.std.proofs.Common.{◌∙◌, ap}
use Rattle.std.proofs.lemmas.Result.{IfOk-weaker}
use Rattle.stm_texts.specs.Opens.{setup_at}
use Rattle.stm_faulted_runs.proofs.RuleLemmas.{state_left}
use Rattle.stm_faulted_runs.proofs.rules.state_after.Goals as goal

pub returns-in-Ok : goal.returns-in-Ok
returns-in-Ok c =
    IfOk-weaker c.state-left.result _ _
    (λ entries is. state_left c.args.scenario.now (setup_at c.revision.result c.operations.result) c.as_slice.result.now c.in_ok-world.world c.run_all-outcome.new.world entries
    (ap (λ r. setup_at r c.operations.result) c.revision.ensures.same ∙ c.operations.ensures.whole ∙ c.opens_with-opening.ensures.setup)
    c.as_slice.ensures c.in_ok-world.ensures c.in-Ok.ensures is)
    c.state-left.ensures
