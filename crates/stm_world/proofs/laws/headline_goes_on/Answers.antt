use Rattle.stm_compile.proofs.AgreeLemmas.{commit_is_the_run_now}
use Rattle.stm_compile.proofs.ConflictLemmas.{failed_compares_conflict}
use Rattle.stm_world.proofs.GoingOn.{headline_goes_on}
use Rattle.stm_world.proofs.laws.headline_goes_on.Goals as goal

pub returns : goal.returns
returns c = headline_goes_on (record { run_now = commit_is_the_run_now; conflicts = failed_compares_conflict })
