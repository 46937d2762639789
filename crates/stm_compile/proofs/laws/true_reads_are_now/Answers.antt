use Rattle.stm_compile.proofs.AgreeLemmas.{true_reads_are_now}
use Rattle.stm_compile.proofs.laws.true_reads_are_now.Goals as goal

pub returns : goal.returns
returns c = true_reads_are_now
