use Rattle.stm_compaction.proofs.Committing.{fetched_kept, listed_kept, sent_kept}
use Rattle.stm_compaction.proofs.laws.kept_serves_runs.Goals as goal

pub returns-clause-fetched : goal.returns-clause-fetched
returns-clause-fetched c = λ s key at reached. fetched_kept s reached key at

pub returns-clause-listed : goal.returns-clause-listed
returns-clause-listed c = λ s keys reached. listed_kept s reached keys

pub returns-clause-sent : goal.returns-clause-sent
returns-clause-sent c = λ journal ready reached. sent_kept journal reached ready
