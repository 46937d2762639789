use Rattle.stm_meaning.proofs.LeafLaws.{texts_are_keys}
use Rattle.stm_meaning.proofs.laws.texts_are_keys.Goals as goal

pub returns : goal.returns
returns c = texts_are_keys
