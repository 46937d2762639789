use Rattle.stm_records.proofs.Restart.{tells}
use Rattle.stm_records.proofs.laws.tells_damage.Goals as goal

pub returns : goal.returns
returns c = tells
