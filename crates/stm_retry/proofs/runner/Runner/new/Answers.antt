use Rattle.std.proofs.Common.{◌∙◌, ap}
use Rattle.stm_attempt.specs.AttemptState.{AttemptState}
use Rattle.stm_world.specs.Task.{Task}
use Rattle.stm_retry.specs.RunnerView.{view_of, task_of}
use Rattle.stm_retry.proofs.RunnerLemmas.{begun_runner}
use Rattle.stm_retry.proofs.runner.Runner.new.Goals as goal

pub returns : goal.returns
returns c =
    let task : Task = task_of c.args.program c.args.level c.args.limit in
    ap (λ (a : AttemptState). (view_of task 0 a).runner) c.new.ensures ∙ begun_runner task c.args.level
