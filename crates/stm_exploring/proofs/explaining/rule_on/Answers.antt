use Rattle.std.proofs.Common.{ℕ, List, IfOk, subst}
use Rattle.std.specs.Prelude.{string_bytes}
use Rattle.stm_exploring.specs.Explaining.{ExplainsOnSchedule}
use Rattle.stm_exploring.proofs.explaining.rule_on.Goals as goal

-- what was read is the text
pub returns-in-Some : goal.returns-in-Some
returns-in-Some g c =
    subst (λ (text : List ℕ). IfOk c.line_by_printed.result (λ line. ExplainsOnSchedule c.args.keeps.now.name.now text c.args.printed.now (string_bytes line)))
    c.in-Some.ensures c.line_by_printed.ensures
