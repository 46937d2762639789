use Rattle.stm_workers.proofs.EndLaws.{apart}
use Rattle.stm_workers.proofs.laws.commits_are_apart.Goals as goal

pub returns : goal.returns
returns c = apart
