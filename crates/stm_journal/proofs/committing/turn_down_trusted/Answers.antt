use Rattle.std.proofs.Common.{◌∙◌, Option, Result, Err, sym, ap, subst}
use Rattle.std.proofs.lemmas.Result.{err_from_is_err_and}
use Rattle.stm_outcome.specs.declared.refusal.Refusal.{Refusal}
use Rattle.stm_journal.specs.declared.verdict.Verdict.{Verdict}
use Rattle.stm_journal.specs.Causes.{IsForeseenBy}
use Rattle.stm_journal.proofs.CauseLemmas.{checked_clear, foreseen_failed, foreseen_out}
use Rattle.stm_journal.proofs.committing.turn_down_trusted.Goals as goal

pub fail-requires : goal.fail-requires
fail-requires c = (checked_clear c.args.store.now.standing c.args.ready.now _ c.requires).1

pub returns-clause-verdict : goal.returns-clause-verdict
returns-clause-verdict c =
    foreseen_failed c.args.store.now.standing c.args.ready.now c.args.failed c.in_ok-verdict.verdict c.requires c.in_ok-verdict.ensures.verdict

-- an allocation failed
pub returns-in_err-verdict-clause-verdict : goal.returns-in_err-verdict-clause-verdict
returns-in_err-verdict-clause-verdict c =
    let exit = err_from_is_err_and c.from_residual.result c.from_residual.ensures.1 in
    subst (λ (r : Result (Option Verdict) Refusal). IsForeseenBy c.args.store.now.standing c.args.ready.now r)
    (sym (exit.1 ∙ ap (λ e. Err e) exit.2)) (foreseen_out c.args.store.now.standing c.args.ready.now)
