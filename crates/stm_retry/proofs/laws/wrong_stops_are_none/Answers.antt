use Rattle.stm_retry.proofs.Stops.{wrong_stops}
use Rattle.stm_retry.proofs.laws.wrong_stops_are_none.Goals as goal

pub returns : goal.returns
returns c = wrong_stops
