use Rattle.stm_compile.proofs.AgreeLemmas.{commit_is_the_run_now}
use Rattle.stm_compile.proofs.laws.commit_is_the_run_now.Goals as goal

pub returns : goal.returns
returns c = commit_is_the_run_now
