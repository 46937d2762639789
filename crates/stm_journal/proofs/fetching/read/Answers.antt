use Rattle.std.proofs.Common.{◌≤◌, Result, IsOk, inl, inr, refl, sym, ap, subst, arith}
use Rattle.std.proofs.lemmas.Result.{err_from_is_err_and}
use Rattle.stm_history.specs.declared.key_state.ReadAnswer.{ReadAnswer}
use Rattle.stm_history.specs.declared.revisions.TheConstants.{HIGHEST_REVISION}
use Rattle.stm_history.specs.History.{now}
use Rattle.stm_outcome.specs.declared.refusal.Refusal.{Refusal}
use Rattle.stm_outcome.specs.declared.refusal.Refusal.TheVariants.{OutOfMemory}
use Rattle.stm_txn.specs.Standing.{Standing}
use Rattle.stm_journal.specs.Fetched.{read_reported}
use Rattle.stm_journal.proofs.FetchLemmas.{reported_as, read_fits, refused_with}
use Rattle.stm_journal.proofs.fetching.read.Goals as goal

-- an allocation failed where the read would be answered
pub returns-in_err-answer-in-Ok-clause-reported : goal.returns-in_err-answer-in-Ok-clause-reported
returns-in_err-answer-in-Ok-clause-reported c =
    let exit = err_from_is_err_and c.from_residual.result c.from_residual.ensures.1 in
    refused_with (read_reported c.args.store.now.standing c.args.key.now c.args.at) c.from_residual.result exit.0 OutOfMemory exit.1 exit.2
    (inr (refl, subst (λ (r : Result ReadAnswer Refusal). IsOk r) (sym c.in-Ok.ensures.found) refl))

pub returns-in_ok-answer-in-Ok-clause-reported : goal.returns-in_ok-answer-in-Ok-clause-reported
returns-in_ok-answer-in-Ok-clause-reported c =
    reported_as c.args.store.now.standing _ c.args.key.now c.args.at _ c.in_ok-answer-in-Ok.answer c.in-Ok.ensures.found c.keys.ensures.history
    c.in_ok-answer-in-Ok.ensures.answer

pub returns-in_ok-answer-in-Ok-clause-in_range : goal.returns-in_ok-answer-in-Ok-clause-in_range
returns-in_ok-answer-in-Ok-clause-in_range c =
    let s : Standing = c.args.store.now.standing in
    let bounded : now s.history ≤ HIGHEST_REVISION = omega (arith, c.in_ok-answer-in-Ok.ensures.counter, ap now c.keys.ensures.history) in
    read_fits s c.args.key.now c.args.at c.in_ok-answer-in-Ok.answer bounded c.keys.ensures.numbers
    (reported_as s _ c.args.key.now c.args.at _ c.in_ok-answer-in-Ok.answer c.in-Ok.ensures.found c.keys.ensures.history c.in_ok-answer-in-Ok.ensures.answer)

pub returns-in-Err-clause-reported : goal.returns-in-Err-clause-reported
returns-in-Err-clause-reported c = inl c.in-Err.ensures.refused
