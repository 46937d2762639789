use Rattle.stm_outcome.proofs.Applying.{none_failed}
use Rattle.stm_outcome.proofs.laws.none_failed.Goals as goal

pub returns : goal.returns
returns c = none_failed
