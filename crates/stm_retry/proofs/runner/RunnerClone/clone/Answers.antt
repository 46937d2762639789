use Rattle.std.proofs.Common.{◌∙◌, ap, sym, subst}
use Rattle.stm_program.specs.Syntax.{ProgramTree}
use Rattle.stm_attempt.specs.AttemptState.{AttemptState}
use Rattle.stm_retry.specs.RunnerView.{view_of, task_of, IsRunner}
use Rattle.stm_retry.proofs.runner.RunnerClone.clone.Goals as goal

pub invariant_of-result : goal.invariant_of-result
invariant_of-result c =
    let level = c.self.inside.level in
    let limit = c.self.inside.limit in
    let failures = c.self.inside.failures in
    subst (λ (p : ProgramTree). IsRunner (task_of p level limit) failures c.in_ok-attempt.attempt) (sym c.in_ok-program.ensures.cases)
    (subst (λ (a : AttemptState). IsRunner (task_of c.self.inside.program level limit) failures a) (sym c.in_ok-attempt.ensures) c.self.invariant)

pub returns : goal.returns
returns c =
    let level = c.self.inside.level in
    let limit = c.self.inside.limit in
    let failures = c.self.inside.failures in
    record {
      cases = ap (λ (p : ProgramTree). view_of (task_of p level limit) failures c.in_ok-attempt.attempt) c.in_ok-program.ensures.cases
          ∙ ap (λ (a : AttemptState). view_of (task_of c.self.inside.program level limit) failures a) c.in_ok-attempt.ensures
          ∙ c.self.view_is;
    }
