use Rattle.stm_outcome.proofs.Applying.{branch_applies}
use Rattle.stm_outcome.proofs.laws.branch_applies.Goals as goal

pub returns : goal.returns
returns c = branch_applies
