use Rattle.stm_workers.proofs.StopLaws.{stops_are_of_one_state}
use Rattle.stm_workers.proofs.laws.stops_are_of_one_state.Goals as goal

pub returns : goal.returns
returns c = stops_are_of_one_state
