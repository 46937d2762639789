use Rattle.stm_check.proofs.Always.{judged_always}
use Rattle.stm_check.proofs.laws.judged_always.Goals as goal

pub returns : goal.returns
returns c = judged_always
