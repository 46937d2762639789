use Rattle.std.proofs.Common.{◌∙◌, Option, Ok, sym, ap}
use Rattle.stm_outcome.specs.declared.answer.FailedCompare.{FailedCompare}
use Rattle.stm_journal.proofs.CauseLemmas.{foreseen_clear, foreseen_wrong}
use Rattle.stm_journal.proofs.committing.foresee.Goals as goal

-- no compare fails
pub returns-in-Ok-None-clause-verdict : goal.returns-in-Ok-None-clause-verdict
returns-in-Ok-None-clause-verdict c =
    foreseen_clear c.args.store.now.standing c.args.ready.now
    (sym c.check.ensures ∙ c.in-Ok-None.is ∙ ap (λ (o : Option FailedCompare). Ok o) c.in-Ok-None.field-0-is)

-- a compare fails
pub turn_down_trusted-requires : goal.turn_down_trusted-requires
turn_down_trusted-requires c = sym c.check.ensures ∙ c.in-Ok-Some.is ∙ ap (λ (o : Option FailedCompare). Ok o) c.in-Ok-Some.field-0-is

-- its transaction is wrong as a whole
pub returns-in-Err-clause-verdict : goal.returns-in-Err-clause-verdict
returns-in-Err-clause-verdict c = foreseen_wrong c.args.store.now.standing c.args.ready.now c.in-Err.fault (sym c.check.ensures ∙ c.in-Err.is)
