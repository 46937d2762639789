use Rattle.stm_outcome.proofs.Widening.{wider_terms_take}
use Rattle.stm_outcome.proofs.laws.wider_terms_take.Goals as goal

pub returns : goal.returns
returns c = wider_terms_take
