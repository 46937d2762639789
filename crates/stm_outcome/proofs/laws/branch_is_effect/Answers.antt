use Rattle.stm_outcome.proofs.Applying.{branch_is_effect}
use Rattle.stm_outcome.proofs.laws.branch_is_effect.Goals as goal

pub returns : goal.returns
returns c = branch_is_effect
