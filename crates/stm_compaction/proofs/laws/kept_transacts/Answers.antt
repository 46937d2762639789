use Rattle.stm_compaction.proofs.Calls.{transacted_kept, written_kept}
use Rattle.stm_compaction.proofs.laws.kept_transacts.Goals as goal

pub returns-clause-transacted : goal.returns-clause-transacted
returns-clause-transacted c = λ s txn reached. transacted_kept s reached txn

pub returns-clause-written : goal.returns-clause-written
returns-clause-written c = λ s writes reached. written_kept s reached writes
