use Rattle.std.proofs.Common.{◌∙◌, rules, ap}
use Rattle.stm_world.specs.Task.{Task}
use Rattle.stm_world.specs.World.{World, Live}
use Rattle.stm_retry.specs.RunnerView.{RunnerView, task_of}
use Rattle.stm_retry.proofs.StepLemmas.{added_number, added_world}
use Rattle.stm_retry.proofs.kept_world.KeptWorld.add_runner.Goals as goal

pub returns-clause-number : goal.returns-clause-number
returns-clause-number c =
    let task : Task = task_of c.args.program c.args.level c.args.limit in
    added_number task c.args.self.now c.self.inside.runners.items c.push.new.self.items c.live.result c.new-runner.result.runner c.len.result c.requires
    (ap (λ (w : World). w.runners) c.self.view_is) c.in_ok-push.ensures.items
    (c.live.ensures ∙ ap (λ (v : RunnerView). Live v.runner) c.in_ok-shared.ensures) c.new-runner.ensures (search rules)

pub returns-clause-ok : goal.returns-clause-ok
returns-clause-ok c =
    let task : Task = task_of c.args.program c.args.level c.args.limit in
    added_world task c.args.self.now c.self.inside.journal c.self.inside.runners.items c.push.new.self.items
    c.live.result c.new-runner.result.runner c.requires c.self.view_is c.in_ok-push.ensures.items
    (c.live.ensures ∙ ap (λ (v : RunnerView). Live v.runner) c.in_ok-shared.ensures) c.new-runner.ensures
