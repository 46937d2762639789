use Rattle.stm_hall.proofs.Opening.{halls_open_as_their_store}
use Rattle.stm_hall.proofs.laws.halls_open_as_their_store.Goals as goal

pub returns : goal.returns
returns c = halls_open_as_their_store
