use Rattle.std.proofs.Common.{◌∙◌, ap, subst, sym}
use Rattle.stm_attempt.specs.AttemptState.{AttemptState}
use Rattle.stm_world.specs.Task.{Task}
use Rattle.stm_retry.specs.RunnerView.{RunnerView, view_of, task_of, IsRunner}
use Rattle.stm_retry.proofs.runner.Runner.rest.Goals as goal

pub invariant_of-self : goal.invariant_of-self
invariant_of-self c =
    let task : Task = task_of c.self.inside.program c.self.inside.level c.self.inside.limit in
    subst (IsRunner task c.self.inside.failures) (sym c.rest.ensures) c.self.invariant

pub returns : goal.returns
returns c =
    let task : Task = task_of c.self.inside.program c.self.inside.level c.self.inside.limit in
    ap (λ (a : AttemptState). (view_of task c.self.inside.failures a).runner) c.rest.ensures ∙ ap (λ (v : RunnerView). v.runner) c.self.view_is
