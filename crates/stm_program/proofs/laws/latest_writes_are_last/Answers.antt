use Rattle.stm_program.proofs.LatestLemmas.{latest_writes-last}
use Rattle.stm_program.proofs.laws.latest_writes_are_last.Goals as goal

pub returns : goal.returns
returns c = latest_writes-last
