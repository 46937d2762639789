use Rattle.stm_narrow.proofs.Naming.{named_keys_are_kept}
use Rattle.stm_narrow.proofs.laws.named_keys_are_kept.Goals as goal

pub returns : goal.returns
returns c = named_keys_are_kept
