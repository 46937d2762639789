use Rattle.stm_compile.proofs.AgreeLemmas.{written_keys_are_unmodified}
use Rattle.stm_compile.proofs.laws.written_keys_are_unmodified.Goals as goal

pub returns : goal.returns
returns c = written_keys_are_unmodified
