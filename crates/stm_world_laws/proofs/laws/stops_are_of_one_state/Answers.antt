use Rattle.stm_compile.proofs.AgreeLemmas.{commit_is_the_run_now}
use Rattle.stm_compile.proofs.ConflictLemmas.{failed_compares_conflict}
use Rattle.stm_world_laws.proofs.Doomed.{stops_are_of_one_state}
use Rattle.stm_world_laws.proofs.laws.stops_are_of_one_state.Goals as goal

pub returns : goal.returns
returns c = stops_are_of_one_state (record { run_now = commit_is_the_run_now; conflicts = failed_compares_conflict })
