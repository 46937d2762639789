use Rattle.stm_outcome.proofs.Applying.{failed_has_its_place}
use Rattle.stm_outcome.proofs.laws.failed_has_its_place.Goals as goal

pub returns : goal.returns
returns c = failed_has_its_place
