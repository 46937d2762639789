use Rattle.stm_check.proofs.LegalReported.{yes_is_the_replay}
use Rattle.stm_check.proofs.laws.yes_is_the_replay.Goals as goal

pub returns : goal.returns
returns c = yes_is_the_replay
