use Rattle.stm_job.proofs.Counted.{as_many}
use Rattle.stm_job.proofs.laws.each_once_is_as_many.Goals as goal

pub returns : goal.returns
returns c = as_many
