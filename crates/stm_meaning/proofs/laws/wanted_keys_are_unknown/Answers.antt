use Rattle.stm_meaning.proofs.RunLaws.{wanted_keys_are_unknown}
use Rattle.stm_meaning.proofs.laws.wanted_keys_are_unknown.Goals as goal

pub returns : goal.returns
returns c = wanted_keys_are_unknown
