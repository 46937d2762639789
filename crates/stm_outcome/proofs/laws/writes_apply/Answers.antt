use Rattle.stm_outcome.proofs.Applying.{writes_apply}
use Rattle.stm_outcome.proofs.laws.writes_apply.Goals as goal

pub returns : goal.returns
returns c = writes_apply
