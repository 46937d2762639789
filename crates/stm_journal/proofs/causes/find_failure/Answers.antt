use Rattle.std.proofs.Common.{Option, sym, ◌∙◌, ap}
use Rattle.stm_outcome.specs.declared.answer.FailedCompare.{FailedCompare}
use Rattle.stm_attempt.specs.ReadyRun.{ReadyRun}
use Rattle.stm_journal.specs.Causes.{cause_unvouched, cause_failed}
use Rattle.stm_journal.specs.Verdicts.{first_unvouched}
use Rattle.stm_journal.proofs.causes.find_failure.Goals as goal

-- no compare fails
pub returns-in-None : goal.returns-in-None
returns-in-None c =
    let ready : ReadyRun = c.args.ready.now in
    c.find_false_value.ensures
    ∙ ap (λ (o : Option FailedCompare). cause_failed o (cause_unvouched (first_unvouched c.args.keys.now.history ready.level ready.answers)))
    (sym c.in-None.is ∙ c.find_conflict.ensures)

pub returns-in-Some : goal.returns-in-Some
returns-in-Some c =
    let ready : ReadyRun = c.args.ready.now in
    ap (λ (o : Option FailedCompare). cause_failed o (cause_unvouched (first_unvouched c.args.keys.now.history ready.level ready.answers)))
    (sym c.in-Some.is ∙ c.find_conflict.ensures)

-- every key is still as it was read
pub returns-then-is_clear : goal.returns-then-is_clear
returns-then-is_clear c = sym (c.is_clear.ensures c.if-is_clear.true)
