use Rattle.stm_compile.proofs.AgreeLemmas.{answers_of_one_revision}
use Rattle.stm_compile.proofs.laws.answers_of_one_revision.Goals as goal

pub returns : goal.returns
returns c = answers_of_one_revision
