use Rattle.stm_meaning.proofs.LeafLaws.{rev_gives}
use Rattle.stm_meaning.proofs.laws.rev_gives_the_revision.Goals as goal

pub returns : goal.returns
returns c = rev_gives
