use Rattle.stm_check.proofs.Once.{judged_once}
use Rattle.stm_check.proofs.laws.judged_once.Goals as goal

pub returns : goal.returns
returns c = judged_once
