use Rattle.stm_workers.proofs.AttemptLaws.{attempts_are_counted}
use Rattle.stm_workers.proofs.laws.attempts_are_counted.Goals as goal

pub returns : goal.returns
returns c = attempts_are_counted
