use Rattle.stm_outcome.proofs.Applying.{failed_compare_reads}
use Rattle.stm_outcome.proofs.laws.failed_compare_reads.Goals as goal

pub returns : goal.returns
returns c = failed_compare_reads
