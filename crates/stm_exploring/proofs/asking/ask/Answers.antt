use Rattle.std.proofs.Common.{sym, subst}
use Rattle.stm_texts.specs.declared.scenario.Scenario.{Scenario}
use Rattle.stm_serial_search.specs.Started.{HaveNoStep}
use Rattle.stm_exploring.proofs.AskingLemmas.{stepless_at}
use Rattle.stm_exploring.proofs.asking.ask.Goals as goal

pub returns-clause-stepless : goal.returns-clause-stepless
returns-clause-stepless c =
    subst (λ (s : Scenario). HaveNoStep s.events) (sym c.asked.ensures) (stepless_at c.args.level c.args.scenario.events)
