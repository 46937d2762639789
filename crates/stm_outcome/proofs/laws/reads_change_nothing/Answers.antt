use Rattle.stm_outcome.proofs.Applying.{reads_change_nothing}
use Rattle.stm_outcome.proofs.laws.reads_change_nothing.Goals as goal

pub returns : goal.returns
returns c = reads_change_nothing
