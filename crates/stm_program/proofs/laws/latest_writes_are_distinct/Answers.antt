use Rattle.stm_program.proofs.LatestLemmas.{latest_writes-distinct}
use Rattle.stm_program.proofs.laws.latest_writes_are_distinct.Goals as goal

pub returns : goal.returns
returns c = latest_writes-distinct
