use Rattle.stm_compaction.proofs.Compacting.{compacted_kept}
use Rattle.stm_compaction.proofs.laws.kept_compacts.Goals as goal

pub returns : goal.returns
returns c = λ s revision has. compacted_kept s has revision
