use Rattle.stm_outcome.proofs.Folding.{look_up_is_the_state}
use Rattle.stm_outcome.proofs.laws.look_up_is_the_state.Goals as goal

pub returns : goal.returns
returns c = look_up_is_the_state
