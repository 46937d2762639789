use Rattle.stm_retry.proofs.Stops as stops
use Rattle.stm_retry.proofs.laws.stops_go_on.Goals as goal

pub returns : goal.returns
returns c = stops.stops_go_on
