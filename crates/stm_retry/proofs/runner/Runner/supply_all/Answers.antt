use Rattle.std.proofs.Common.{◌≡◌, ◌∙◌, ap, map, Some}
use Rattle.std.proofs.lemmas.Result.{on_ok_weaker}
use Rattle.stm_history.specs.declared.key_state.ReadAnswer.{ReadAnswer}
use Rattle.stm_attempt.specs.AttemptState.{AttemptState, list_awaited, supplied_all}
use Rattle.stm_world.specs.Task.{Task}
use Rattle.stm_retry.specs.RunnerView.{RunnerView, view_of, task_of, IsRunner, with_answers}
use Rattle.stm_retry.proofs.RunnerLemmas.{kept_by, listed_runner, listed_is_runner}
use Rattle.stm_retry.proofs.runner.Runner.supply_all.Goals as goal

pub invariant_of-self : goal.invariant_of-self
invariant_of-self c =
    let task : Task = task_of c.self.inside.program c.self.inside.level c.self.inside.limit in
    let old : AttemptState = c.self.inside.attempt in
    let asked : list_awaited old ≡ Some (map (λ (a : ReadAnswer). a.key) c.args.answers.items) =
    ap (λ (v : RunnerView). v.awaits_list) c.self.view_is ∙ c.requires.asked in
    kept_by c.supply_all.result (IsRunner task c.self.inside.failures) old (supplied_all c.args.answers.items old) c.supply_all.new.self
    c.supply_all.ensures.ok c.supply_all.ensures.err c.self.invariant
    (listed_is_runner task c.self.inside.failures old c.args.answers.items c.self.invariant c.prefetch.ensures.fits asked)

pub returns-clause-ok : goal.returns-clause-ok
returns-clause-ok c =
    let task : Task = task_of c.self.inside.program c.self.inside.level c.self.inside.limit in
    let failures = c.self.inside.failures in
    let old : AttemptState = c.self.inside.attempt in
    on_ok_weaker c.supply_all.result (λ is.
    ap (λ (a : AttemptState). (view_of task failures a).runner) is
    ∙ listed_runner task failures old c.args.answers.items
    ∙ ap (λ (v : RunnerView). with_answers c.args.answers.items v.runner) c.self.view_is) c.supply_all.ensures.ok
