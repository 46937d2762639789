use Rattle.stm_compile.proofs.OutcomeLemmas.{commit_comes_to}
use Rattle.stm_compile.proofs.laws.commit_comes_to.Goals as goal

pub returns : goal.returns
returns c = commit_comes_to
