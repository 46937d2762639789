use Rattle.std.proofs.Common.{◌≡◌, IfOk, string_bytes, sym, subst}
use Rattle.stm_check.specs.declared.checking.Checked.{Checked}
use Rattle.stm_commands.specs.Checking.{answer_text}
use Rattle.stm_commands.proofs.checking.text_of.Goals as goal

pub returns-in-No : goal.returns-in-No
returns-in-No c =
    subst (λ (k : Checked). IfOk c.no_text.result (λ text. string_bytes text ≡ answer_text k)) (sym c.in-No.is) c.no_text.ensures
