use Rattle.stm_entries.proofs.Replaying.{legality_goes_on}
use Rattle.stm_entries.proofs.laws.legality_goes_on.Goals as goal

pub returns : goal.returns
returns c = legality_goes_on
