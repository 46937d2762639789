use Rattle.std.proofs.lemmas.Result.{IfOk-weaker}
use Rattle.stm_workers.proofs.NextLemmas.{begun_is_of}
use Rattle.stm_workers.proofs.attempts.next_attempt.Goals as goal

pub returns-clause-is_its : goal.returns-clause-is_its
returns-clause-is_its c = IfOk-weaker c.after_conflict.result _ _ (λ attempt is. begun_is_of c.args.job.now _ attempt is) c.after_conflict.ensures
