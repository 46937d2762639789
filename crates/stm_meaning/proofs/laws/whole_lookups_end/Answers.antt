use Rattle.stm_meaning.proofs.RunLaws.{whole_lookups_end}
use Rattle.stm_meaning.proofs.laws.whole_lookups_end.Goals as goal

pub returns : goal.returns
returns c = whole_lookups_end
