use Rattle.stm_compile.proofs.AgreeLemmas.{commit_is_the_run_now}
use Rattle.stm_compile.proofs.ConflictLemmas.{failed_compares_conflict}
use Rattle.stm_world_laws.proofs.Failures.{failures_move_on}
use Rattle.stm_world_laws.proofs.laws.failures_move_on.Goals as goal

pub returns : goal.returns
returns c = failures_move_on (record { run_now = commit_is_the_run_now; conflicts = failed_compares_conflict })
