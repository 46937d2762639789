use Rattle.stm_compile.proofs.AgreeLemmas.{true_answers_stay}
use Rattle.stm_compile.proofs.laws.true_answers_stay.Goals as goal

pub returns : goal.returns
returns c = true_answers_stay
