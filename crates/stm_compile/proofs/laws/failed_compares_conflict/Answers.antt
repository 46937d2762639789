use Rattle.stm_compile.proofs.ConflictLemmas.{failed_compares_conflict}
use Rattle.stm_compile.proofs.laws.failed_compares_conflict.Goals as goal

pub returns : goal.returns
returns c = failed_compares_conflict
