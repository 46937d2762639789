use Rattle.std.proofs.Common.{sym, subst}
use Rattle.stm_texts.specs.declared.scenario.Scenario.{Scenario}
use Rattle.stm_serial_search.specs.Started.{HaveNoStep}
use Rattle.stm_exploring.proofs.AskingLemmas.{steps_at}
use Rattle.stm_exploring.proofs.leveled.put_level.Goals as goal

pub returns-clause-stepless : goal.returns-clause-stepless
returns-clause-stepless c =
    subst (λ (s : Scenario). HaveNoStep s.events) (sym c.put_starts.ensures) (steps_at c.args.level c.args.scenario.now.events c.requires)
