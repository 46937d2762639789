use Rattle.std.proofs.Common.{◌≡◌, true, false, sym, ◌∙◌, ap, subst}
use Rattle.stm_outcome.specs.Checks.{has_too_many}
use Rattle.stm_attempt.specs.ReadyRun.{ReadyRun, IsRunOnItsAnswers}
use Rattle.stm_journal.specs.Verdicts.{txn_of}
use Rattle.stm_journal.proofs.WholeFaults.{fault_many, fault_empty, ready_right}
use Rattle.stm_journal.proofs.faults.find_fault.Goals as goal

pub returns-then-are_too_many : goal.returns-then-are_too_many
returns-then-are_too_many c =
    let ready : ReadyRun = c.args.ready.now in
    let many : has_too_many c.args.limit (txn_of ready) ≡ true =
    sym (c.are_too_many.ensures ∙ ap (λ (r : ReadyRun). has_too_many c.args.limit (txn_of r)) c.ready.view_is) ∙ c.if-are_too_many.true in
    sym (fault_many c.args.limit (txn_of ready) many)

pub returns-then-has_empty : goal.returns-then-has_empty
returns-then-has_empty c =
    let ready : ReadyRun = c.args.ready.now in
    let few : has_too_many c.args.limit (txn_of ready) ≡ false =
    sym (c.are_too_many.ensures ∙ ap (λ (r : ReadyRun). has_too_many c.args.limit (txn_of r)) c.ready.view_is) ∙ c.if-are_too_many.false in
    sym (fault_empty c.args.limit (txn_of ready) few (sym c.requires ∙ c.if-has_empty.true))

pub returns : goal.returns
returns c =
    let ready : ReadyRun = c.args.ready.now in
    let kept : IsRunOnItsAnswers ready = subst IsRunOnItsAnswers c.ready.view_is c.ready.invariant in
    let few : has_too_many c.args.limit (txn_of ready) ≡ false =
    sym (c.are_too_many.ensures ∙ ap (λ (r : ReadyRun). has_too_many c.args.limit (txn_of r)) c.ready.view_is) ∙ c.if-are_too_many.false in
    sym (ready_right c.args.limit ready kept few (sym c.requires ∙ c.if-has_empty.false))
