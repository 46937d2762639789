use Rattle.std.proofs.Common.{subst}
use Rattle.stm_attempt.specs.ReadyRun.{IsRunOnItsAnswers}
use Rattle.stm_journal.proofs.prepared.prepare.Goals as goal

pub invariant_of-result : goal.invariant_of-result
invariant_of-result c = record {
  run = subst IsRunOnItsAnswers c.ready.view_is c.ready.invariant;
  names = c.names_empty_key-has_empty.ensures;
}
