use Rattle.stm_compile.proofs.AgreeLemmas.{commit_is_the_run_now}
use Rattle.stm_compile.proofs.ConflictLemmas.{failed_compares_conflict}
use Rattle.stm_world.proofs.Headlines.{headline}
use Rattle.stm_world.proofs.OneReply.{one_right_reply}
use Rattle.stm_world.proofs.laws.right_replies_are_one.Goals as goal

pub returns : goal.returns
returns c = one_right_reply (headline (record { run_now = commit_is_the_run_now; conflicts = failed_compares_conflict }))
