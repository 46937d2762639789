use Rattle.std.proofs.Common.{◌≡◌, ◌∙◌, ap, refl}
use Rattle.stm_attempt.specs.AttemptState.{AttemptState, advanced}
use Rattle.stm_world.specs.Task.{Task}
use Rattle.stm_retry.specs.RunnerView.{RunnerView, view_of, task_of, AreNamed, IsRunner}
use Rattle.stm_attempt.proofs.EnteringLemmas.{list_named}
use Rattle.stm_retry.proofs.RunnerLemmas.{kept_by, advanced_runner, advanced_is_runner, named_runner}
use Rattle.stm_retry.proofs.runner.Runner.advance.Goals as goal

pub invariant_of-self : goal.invariant_of-self
invariant_of-self c =
    let task : Task = task_of c.self.inside.program c.self.inside.level c.self.inside.limit in
    let old : AttemptState = c.self.inside.attempt in
    kept_by c.advance.result (IsRunner task c.self.inside.failures) old (advanced task.program old) c.advance.new.self c.advance.ensures.ok
    c.advance.ensures.err c.self.invariant (advanced_is_runner task c.self.inside.failures old c.self.invariant)

pub returns-clause-same : goal.returns-clause-same
returns-clause-same c =
    let task : Task = task_of c.self.inside.program c.self.inside.level c.self.inside.limit in
    let failures = c.self.inside.failures in
    let old : AttemptState = c.self.inside.attempt in
    kept_by c.advance.result (λ a. (view_of task failures a).runner ≡ (view_of task failures old).runner) old (advanced task.program old)
    c.advance.new.self c.advance.ensures.ok c.advance.ensures.err refl (advanced_runner task failures old)
    ∙ ap (λ (v : RunnerView). v.runner) c.self.view_is

pub returns-clause-named : goal.returns-clause-named
returns-clause-named c =
    let task : Task = task_of c.self.inside.program c.self.inside.level c.self.inside.limit in
    let failures = c.self.inside.failures in
    let old : AttemptState = c.self.inside.attempt in
    kept_by c.advance.result (λ a. AreNamed (view_of task failures a).runner.known.reads) old (advanced task.program old) c.advance.new.self
    c.advance.ensures.ok c.advance.ensures.err (named_runner task failures old c.self.invariant)
    (named_runner task failures (advanced task.program old) (advanced_is_runner task failures old c.self.invariant))

pub returns-clause-keys : goal.returns-clause-keys
returns-clause-keys c = list_named c.self.inside.program c.prefetch.ensures.fits
