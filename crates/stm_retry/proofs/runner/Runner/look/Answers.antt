use Rattle.std.proofs.Common.{◌≡◌, ◌∙◌, ap, refl}
use Rattle.stm_program.specs.declared.level.Level.{Level}
use Rattle.stm_attempt.specs.AttemptState.{AttemptState, advanced}
use Rattle.stm_attempt.specs.Next.{next_of}
use Rattle.stm_world.specs.Task.{Task}
use Rattle.stm_retry.specs.RunnerView.{RunnerView, view_of, task_of, IsRunner, next_for}
use Rattle.stm_retry.proofs.RunnerLemmas.{kept_by, advanced_runner, advanced_is_runner}
use Rattle.stm_retry.proofs.runner.Runner.look.Goals as goal

pub invariant_of-self : goal.invariant_of-self
invariant_of-self c =
    let task : Task = task_of c.self.inside.program c.self.inside.level c.self.inside.limit in
    let old : AttemptState = c.self.inside.attempt in
    kept_by c.advance.result (IsRunner task c.self.inside.failures) old (advanced task.program old) c.advance.new.self c.advance.ensures.ok
    c.advance.ensures.err c.self.invariant (advanced_is_runner task c.self.inside.failures old c.self.invariant)

pub invariant_of-self-2 : goal.invariant_of-self-2
invariant_of-self-2 c =
    let task : Task = task_of c.self.inside.program c.self.inside.level c.self.inside.limit in
    let old : AttemptState = c.self.inside.attempt in
    kept_by c.advance.result (IsRunner task c.self.inside.failures) old (advanced task.program old) c.advance.new.self c.advance.ensures.ok
    c.advance.ensures.err c.self.invariant (advanced_is_runner task c.self.inside.failures old c.self.invariant)

pub returns-clause-same : goal.returns-clause-same
returns-clause-same c =
    let task : Task = task_of c.self.inside.program c.self.inside.level c.self.inside.limit in
    let failures = c.self.inside.failures in
    let old : AttemptState = c.self.inside.attempt in
    kept_by c.advance.result (λ a. (view_of task failures a).runner ≡ (view_of task failures old).runner) old (advanced task.program old)
    c.advance.new.self c.advance.ensures.ok c.advance.ensures.err refl (advanced_runner task failures old)
    ∙ ap (λ (v : RunnerView). v.runner) c.self.view_is

pub returns-clause-ahead : goal.returns-clause-ahead
returns-clause-ahead c =
    let old : AttemptState = c.self.inside.attempt in
    c.ahead_of.ensures c.args.self.now.runner
    (c.in_ok-next.ensures.next ∙ ap (λ (level : Level). next_of c.self.inside.program level old.known) c.self.invariant.of_level
    ∙ ap (λ (v : RunnerView). next_for v.runner) c.self.view_is)
    (c.reads.ensures ∙ ap (λ (a : AttemptState). a.known.reads) c.in_ok-next.ensures.ok ∙ ap (λ (v : RunnerView). v.runner.known.reads) c.self.view_is)
