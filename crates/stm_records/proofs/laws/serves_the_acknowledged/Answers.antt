use Rattle.stm_records.proofs.Restart.{serves}
use Rattle.stm_records.proofs.laws.serves_the_acknowledged.Goals as goal

pub returns : goal.returns
returns c = serves
