use Rattle.stm_compile.proofs.OutcomeLemmas.{applied_is_effect}
use Rattle.stm_compile.proofs.laws.applied_is_effect.Goals as goal

pub returns : goal.returns
returns c = applied_is_effect
