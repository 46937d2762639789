use Rattle.stm_lasting.proofs.Restarts.{worlds_alike}
use Rattle.stm_lasting.proofs.laws.opens_to_the_same.Goals as goal

pub returns : goal.returns
returns c = worlds_alike
