use Rattle.stm_meaning.proofs.LeafLaws.{numbers_are_read_back}
use Rattle.stm_meaning.proofs.laws.numbers_are_read_back.Goals as goal

pub returns : goal.returns
returns c = numbers_are_read_back
