use Rattle.std.proofs.Common.{inl}
use Rattle.stm_records.proofs.opening.open.Goals as goal

pub returns-in-Err-clause-hurt : goal.returns-in-Err-clause-hurt
returns-in-Err-clause-hurt g c = λ at is. let told = c.in-Err.ensures.damaged at is in (inl told.0, told.1)
