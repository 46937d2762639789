use Rattle.stm_compaction.proofs.Calls.{granted_kept, kept_alive_kept, revoked_kept}
use Rattle.stm_compaction.proofs.Expiring.{expiries_kept, advanced_kept}
use Rattle.stm_compaction.proofs.laws.kept_leases.Goals as goal

pub returns-clause-granted : goal.returns-clause-granted
returns-clause-granted c = granted_kept

pub returns-clause-renewed : goal.returns-clause-renewed
returns-clause-renewed c = kept_alive_kept

pub returns-clause-revoked : goal.returns-clause-revoked
returns-clause-revoked c = λ s id reached. revoked_kept s reached id

pub returns-clause-expired : goal.returns-clause-expired
returns-clause-expired c = λ s many reached. expiries_kept many s reached

pub returns-clause-advanced : goal.returns-clause-advanced
returns-clause-advanced c = λ s moment reached. advanced_kept s reached moment
