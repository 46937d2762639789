use Rattle.stm_program.proofs.LatestLemmas.{latest_writes-in_order}
use Rattle.stm_program.proofs.laws.latest_writes_are_in_order.Goals as goal

pub returns : goal.returns
returns c = latest_writes-in_order
