use Rattle.stm_compile.proofs.OutcomeLemmas.{failed_commit_rereads}
use Rattle.stm_compile.proofs.laws.failed_commit_rereads.Goals as goal

pub returns : goal.returns
returns c = failed_commit_rereads
