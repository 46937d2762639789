use Rattle.stm_txn.proofs.Naming.{are_keys}
use Rattle.stm_txn.proofs.laws.keys_of_lease_are_attached.Goals as goal

pub returns : goal.returns
returns c = are_keys
