use Rattle.stm_outcome.proofs.Applying.{history_grows}
use Rattle.stm_outcome.proofs.laws.history_grows.Goals as goal

pub returns : goal.returns
returns c = history_grows
