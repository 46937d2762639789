use Rattle.stm_lasting.proofs.Restarts.{serves}
use Rattle.stm_lasting.proofs.laws.serves_the_kept.Goals as goal

pub returns : goal.returns
returns c = serves
