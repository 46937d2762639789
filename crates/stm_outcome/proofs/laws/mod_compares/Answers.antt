use Rattle.stm_outcome.proofs.Applying.{mod_compares}
use Rattle.stm_outcome.proofs.laws.mod_compares.Goals as goal

pub returns : goal.returns
returns c = mod_compares
