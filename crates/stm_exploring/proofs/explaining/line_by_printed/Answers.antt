use Rattle.std.proofs.Common.{ℕ, List, IfOk, subst}
use Rattle.std.specs.Prelude.{string_bytes}
use Rattle.stm_texts.specs.Reading.{scenario_in}
use Rattle.stm_faulted_runs.specs.Rules.{ExplainsRule}
use Rattle.stm_exploring.proofs.explaining.line_by_printed.Goals as goal

pub returns-in-Some : goal.returns-in-Some
returns-in-Some c =
    subst (λ (schedule : List ℕ). IfOk c.rule_explained.result (λ line. ExplainsRule c.args.name.now c.args.text.now (scenario_in schedule) (string_bytes line)))
    c.in-Some.ensures c.rule_explained.ensures
