use Rattle.stm_entries.proofs.Adding.{replay_only_adds}
use Rattle.stm_entries.proofs.laws.replay_only_adds.Goals as goal

pub returns : goal.returns
returns c = replay_only_adds
