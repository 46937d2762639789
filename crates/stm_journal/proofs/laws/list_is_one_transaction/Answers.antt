use Rattle.stm_journal.proofs.ListFetchLemmas.{list_is_one_transaction}
use Rattle.stm_journal.proofs.laws.list_is_one_transaction.Goals as goal

pub returns : goal.returns
returns c = list_is_one_transaction
