use Rattle.stm_meaning.proofs.RunKeyLaws.{keys_are_not_empty}
use Rattle.stm_meaning.proofs.laws.keys_are_not_empty.Goals as goal

pub returns : goal.returns
returns c = keys_are_not_empty
