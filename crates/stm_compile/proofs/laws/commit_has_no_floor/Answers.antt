use Rattle.stm_compile.proofs.OutcomeLemmas.{commit_has_no_floor}
use Rattle.stm_compile.proofs.laws.commit_has_no_floor.Goals as goal

pub returns : goal.returns
returns c = commit_has_no_floor
