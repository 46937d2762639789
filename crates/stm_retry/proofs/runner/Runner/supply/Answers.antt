use Rattle.std.proofs.Common.{◌≡◌, ◌∙◌, ap, Some}
use Rattle.std.proofs.lemmas.Result.{on_ok_weaker}
use Rattle.stm_attempt.specs.AttemptState.{AttemptState, awaited, supplied}
use Rattle.stm_world.specs.Task.{Task}
use Rattle.stm_retry.specs.RunnerView.{RunnerView, view_of, task_of, IsRunner, with_answer}
use Rattle.stm_retry.proofs.RunnerLemmas.{kept_by, supplied_runner, supplied_is_runner}
use Rattle.stm_retry.proofs.runner.Runner.supply.Goals as goal

pub invariant_of-self : goal.invariant_of-self
invariant_of-self c =
    let task : Task = task_of c.self.inside.program c.self.inside.level c.self.inside.limit in
    let old : AttemptState = c.self.inside.attempt in
    let asked : awaited old ≡ Some c.args.answer.key = ap (λ (v : RunnerView). v.awaits) c.self.view_is ∙ c.requires.asked in
    kept_by c.supply.result (IsRunner task c.self.inside.failures) old (supplied c.args.answer old) c.supply.new.self c.supply.ensures.ok
    c.supply.ensures.err c.self.invariant (supplied_is_runner task c.self.inside.failures old c.args.answer c.self.invariant asked)

pub returns-clause-ok : goal.returns-clause-ok
returns-clause-ok c =
    let task : Task = task_of c.self.inside.program c.self.inside.level c.self.inside.limit in
    let failures = c.self.inside.failures in
    let old : AttemptState = c.self.inside.attempt in
    let asked : awaited old ≡ Some c.args.answer.key = ap (λ (v : RunnerView). v.awaits) c.self.view_is ∙ c.requires.asked in
    on_ok_weaker c.supply.result (λ is.
    ap (λ (a : AttemptState). (view_of task failures a).runner) is
    ∙ supplied_runner task failures old c.args.answer c.self.invariant.of_program asked
    ∙ ap (λ (v : RunnerView). with_answer c.args.answer v.runner) c.self.view_is) c.supply.ensures.ok
