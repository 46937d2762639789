use Rattle.stm_txn.proofs.Naming.{present_listed}
use Rattle.stm_txn.proofs.laws.present_keys_are_listed.Goals as goal

pub returns : goal.returns
returns c = present_listed
