use Rattle.stm_meaning.proofs.LeafLaws.{get_gives}
use Rattle.stm_meaning.proofs.laws.get_gives_the_value.Goals as goal

pub returns : goal.returns
returns c = get_gives
