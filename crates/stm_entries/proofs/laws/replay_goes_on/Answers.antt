use Rattle.stm_entries.proofs.Replaying.{replay_goes_on}
use Rattle.stm_entries.proofs.laws.replay_goes_on.Goals as goal

pub returns : goal.returns
returns c = replay_goes_on
