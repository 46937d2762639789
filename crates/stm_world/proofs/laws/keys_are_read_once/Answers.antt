use Rattle.stm_compile.proofs.AgreeLemmas.{commit_is_the_run_now}
use Rattle.stm_compile.proofs.ConflictLemmas.{failed_compares_conflict}
use Rattle.stm_world.proofs.Headlines.{read_once}
use Rattle.stm_world.proofs.laws.keys_are_read_once.Goals as goal

pub returns : goal.returns
returns c = read_once (record { run_now = commit_is_the_run_now; conflicts = failed_compares_conflict })
