use Rattle.stm_meaning.proofs.RunLaws.{answers_give_the_run}
use Rattle.stm_meaning.proofs.laws.answers_give_the_run.Goals as goal

pub returns : goal.returns
returns c = answers_give_the_run
