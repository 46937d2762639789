use Rattle.stm_compaction.proofs.Expiring.{comes_too, cut_short_too}
use Rattle.stm_compaction.proofs.laws.kept_advances.Goals as goal

pub returns-clause-comes : goal.returns-clause-comes
returns-clause-comes c = λ s moment expired left reached is come. comes_too s reached moment expired left is come

pub returns-clause-cut_short : goal.returns-clause-cut_short
returns-clause-cut_short c = λ s moment expired cause left reached come cut. cut_short_too s reached moment expired left cause come cut
