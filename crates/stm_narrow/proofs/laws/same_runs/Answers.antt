use Rattle.stm_narrow.proofs.SameRun.{same_runs}
use Rattle.stm_narrow.proofs.laws.same_runs.Goals as goal

pub returns : goal.returns
returns c = same_runs
