use Rattle.stm_lasting.proofs.Restarts.{to_one}
use Rattle.stm_lasting.proofs.laws.opens_to_one.Goals as goal

pub returns : goal.returns
returns c = to_one
