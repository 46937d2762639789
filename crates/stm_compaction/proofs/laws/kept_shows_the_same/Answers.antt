use Rattle.stm_compaction.proofs.Shown.{kept_shows}
use Rattle.stm_compaction.proofs.laws.kept_shows_the_same.Goals as goal

pub returns : goal.returns
returns c = λ s reached. kept_shows s reached
