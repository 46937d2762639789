use Rattle.stm_meaning.proofs.RunKeyLaws.{reads_are_known}
use Rattle.stm_meaning.proofs.laws.reads_are_known.Goals as goal

pub returns : goal.returns
returns c = reads_are_known
