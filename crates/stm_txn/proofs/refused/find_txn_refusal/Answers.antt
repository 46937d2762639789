use Rattle.std.proofs.Common.{sym}
use Rattle.stm_txn.proofs.refused.find_txn_refusal.Goals as goal

pub returns-in-None : goal.returns-in-None
returns-in-None c = c.find_chosen_refusal.ensures c.args.limit (sym c.in-None.ensures)
