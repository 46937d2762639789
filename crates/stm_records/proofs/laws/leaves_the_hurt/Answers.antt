use Rattle.stm_records.proofs.Hurt.{leaves}
use Rattle.stm_records.proofs.laws.leaves_the_hurt.Goals as goal

pub returns : goal.returns
returns c = leaves
