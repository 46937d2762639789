use Rattle.std.proofs.Common.{◌∙◌, ap, subst}
use Rattle.stm_attempt.specs.ReadyRun.{IsRunOnItsAnswers}
use Rattle.stm_journal.specs.Causes.{cause_of}
use Rattle.stm_journal.proofs.prepared.Prepared.find_cause.Goals as goal

-- whether it names an empty key was found
pub find_cause-requires : goal.find_cause-requires
find_cause-requires c = c.self.invariant.names

pub returns-clause-cause : goal.returns-clause-cause
returns-clause-cause c = c.find_cause.ensures ∙ ap (cause_of c.args.store.now.standing) c.self.view_is

pub returns-clause-run : goal.returns-clause-run
returns-clause-run c = subst IsRunOnItsAnswers c.self.view_is c.self.invariant.run
