use Rattle.stm_txn.proofs.Advancing.{advance_expires}
use Rattle.stm_txn.proofs.laws.advance_expires.Goals as goal

pub returns : goal.returns
returns c = advance_expires
