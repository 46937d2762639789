use Rattle.std.proofs.Common.{sym, ◌∙◌, ap}
use Rattle.std.specs.Prelude.{option_copied}
use Rattle.stm_journal.specs.Causes.{cause_unvouched}
use Rattle.stm_journal.proofs.causes.find_false_value.Goals as goal

pub returns-in-None : goal.returns-in-None
returns-in-None c = ap cause_unvouched (sym (ap (λ o. option_copied o) c.in-None.is) ∙ c.find_unvouched.ensures)

pub returns-in-Some : goal.returns-in-Some
returns-in-Some c = ap cause_unvouched (sym (ap (λ o. option_copied o) c.in-Some.is) ∙ c.find_unvouched.ensures)
