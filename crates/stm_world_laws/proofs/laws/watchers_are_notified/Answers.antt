use Rattle.stm_compile.proofs.AgreeLemmas.{commit_is_the_run_now}
use Rattle.stm_compile.proofs.ConflictLemmas.{failed_compares_conflict}
use Rattle.stm_world.proofs.Headlines.{headline}
use Rattle.stm_world_laws.proofs.Notifying.{watchers_are_notified}
use Rattle.stm_world_laws.proofs.laws.watchers_are_notified.Goals as goal

pub returns : goal.returns
returns c = watchers_are_notified (headline (record { run_now = commit_is_the_run_now; conflicts = failed_compares_conflict }))
