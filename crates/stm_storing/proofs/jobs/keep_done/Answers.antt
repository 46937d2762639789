use Rattle.std.proofs.Common.{inr, ap, ◌∙◌}
use Rattle.stm_texts.specs.Reading.{scenario_in}
use Rattle.stm_lasting.proofs.Moments.{weaker}
use Rattle.stm_storing.proofs.jobs.keep_done.Goals as goal

pub returns-clause-any_moment : goal.returns-clause-any_moment
returns-clause-any_moment g c =
    weaker c.go_on_over.ensures.any_moment
    (λ f left.
    inr
    (c.as_bytes.result.now, c.args.done.now.written.scenario, ap scenario_in c.as_bytes.ensures.value ∙ c.requires.spelled, (c.args.world, c.requires.ready, left)))
