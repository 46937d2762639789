use Rattle.stm_workers.proofs.NextLemmas.{begun_is_of}
use Rattle.stm_workers.proofs.attempts.first_attempt.Goals as goal

pub returns-clause-is_its : goal.returns-clause-is_its
returns-clause-is_its c = begun_is_of c.args.job.now _ _ c.new.ensures
