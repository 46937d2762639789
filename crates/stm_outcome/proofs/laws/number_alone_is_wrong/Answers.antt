use Rattle.stm_outcome.proofs.Applying.{number_alone_is_wrong}
use Rattle.stm_outcome.proofs.laws.number_alone_is_wrong.Goals as goal

pub returns : goal.returns
returns c = number_alone_is_wrong
