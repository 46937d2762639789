use Rattle.std.proofs.Common.{⊎_elim, ap, ◌∙◌}
use Rattle.std.specs.Prelude.{Err}
use Rattle.std.proofs.lemmas.Result.{IfOk-weaker, IfErr-weaker}
use Rattle.stm_records.specs.RecordFiles.{payloads_of}
use Rattle.stm_lasting.proofs.opening.open.Goals as goal

pub returns-in-Ok-clause-end : goal.returns-in-Ok-clause-end
returns-in-Ok-clause-end g c = IfOk-weaker c.kept_of.result _ _ (λ kept is. is ∙ c.in-Ok.ensures.end) c.kept_of.ensures.end

pub returns-in-Ok-clause-opens : goal.returns-in-Ok-clause-opens
returns-in-Ok-clause-opens g c =
    IfOk-weaker c.kept_of.result _ _ (λ kept leads. record { head = c.in-Ok.ensures.head; records = payloads_of c.in-Ok.opened; opens = c.in-Ok.ensures.opens; leads = leads })
    c.kept_of.ensures.world

pub returns-in-Ok-clause-kept : goal.returns-in-Ok-clause-kept
returns-in-Ok-clause-kept g c =
    IfOk-weaker c.kept_of.result _ _ (λ kept leads. record { records = payloads_of c.in-Ok.opened; whole = c.in-Ok.ensures.kept; leads = leads })
    c.kept_of.ensures.world

pub returns-in-Ok-clause-count : goal.returns-in-Ok-clause-count
returns-in-Ok-clause-count g c =
    IfOk-weaker c.kept_of.result _ _ (λ kept is. record { records = payloads_of c.in-Ok.opened; whole = c.in-Ok.ensures.kept; number = is })
    c.kept_of.ensures.count

pub returns-in-Ok-clause-nowhere : goal.returns-in-Ok-clause-nowhere
returns-in-Ok-clause-nowhere g c =
    IfErr-weaker c.kept_of.result _ _ (λ e none at is. record { head = c.in-Ok.ensures.head; records = payloads_of c.in-Ok.opened; opens = c.in-Ok.ensures.opens; nowhere = none at is })
    c.kept_of.ensures.nowhere

pub returns-in-Ok-clause-hurt : goal.returns-in-Ok-clause-hurt
returns-in-Ok-clause-hurt g c = IfErr-weaker c.kept_of.result _ _ (λ e never at is. absurd (never at is)) c.kept_of.ensures.hurt

pub returns-in-Err-clause-hurt : goal.returns-in-Err-clause-hurt
returns-in-Err-clause-hurt g c = λ at is. c.in-Err.ensures.hurt at (c.fault_of.ensures.damaged at is)

pub returns-in-Err-clause-nowhere : goal.returns-in-Err-clause-nowhere
returns-in-Err-clause-nowhere g c = λ at is. absurd (c.fault_of.ensures.spelled at is)

pub returns-in-Ok-clause-failed : goal.returns-in-Ok-clause-failed
returns-in-Ok-clause-failed g c = IfErr-weaker c.kept_of.result _ _ (λ e never is. absurd (never is)) c.kept_of.ensures.failed

pub returns-in-Err-clause-failed : goal.returns-in-Err-clause-failed
returns-in-Err-clause-failed g c = λ is.
    ⊎_elim (λ failed. c.in-Err.ensures.failed (ap Err failed)) (λ full. absurd (c.in-Err.ensures.full (ap Err full))) (c.fault_of.ensures.failed is)
