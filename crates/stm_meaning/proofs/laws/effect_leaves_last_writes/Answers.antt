use Rattle.stm_meaning.proofs.EffectLemmas.{effect_leaves_last_writes}
use Rattle.stm_meaning.proofs.laws.effect_leaves_last_writes.Goals as goal

pub returns : goal.returns
returns c = effect_leaves_last_writes
