use Rattle.stm_faulted_runs.specs.Lines.{faults_from}
use Rattle.stm_faulted_runs.specs.Origins.{origin_in}
use Rattle.stm_faulted_runs.proofs.LineLemmas.{adds_all}
use Rattle.stm_faulted_runs.proofs.scripts.lines_in.Goals as goal

pub returns-in-Ok : goal.returns-in-Ok
returns-in-Ok c =
    adds_all (origin_in c.args.explained.now) (faults_from c.args.world c.args.events.now) _ _ c.new-out.ensures.bytes c.in-Ok.ensures
