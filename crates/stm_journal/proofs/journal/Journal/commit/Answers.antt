use Rattle.std.proofs.Common.{◌∙◌, Result, Err, inl, refl, sym, ap, subst}
use Rattle.std.proofs.lemmas.Result.{err_from_is_err_and}
use Rattle.stm_attempt.specs.ReadyRun.{ReadyRun}
use Rattle.stm_journal.specs.declared.verdict.Verdict.{Verdict}
use Rattle.stm_journal.specs.declared.refusal.CommitRefusal.{CommitRefusal}
use Rattle.stm_journal.specs.Verdicts.{verdict_of, CommitReturns}
use Rattle.stm_journal.proofs.journal.Journal.commit.Goals as goal

-- an allocation failed
pub returns-in_err-prepared-clause-verdict : goal.returns-in_err-prepared-clause-verdict
returns-in_err-prepared-clause-verdict c =
    let exit = err_from_is_err_and c.from_residual.result c.from_residual.ensures.1 in
    subst (λ (r : Result Verdict CommitRefusal). CommitReturns (verdict_of c.args.self.now c.args.ready.now) c.args.self.now r c.args.self.now)
    (sym (exit.1 ∙ ap (λ e. Err e) exit.2)) (inl refl, refl)

-- what was prepared is a copy of the attempt
pub returns-clause-verdict : goal.returns-clause-verdict
returns-clause-verdict c =
    subst (λ (r : ReadyRun). CommitReturns (verdict_of c.args.self.now r) c.args.self.now c.commit_prepared.result c.commit_prepared.new.self)
    c.in_ok-prepared.ensures.prepared c.commit_prepared.ensures.verdict
