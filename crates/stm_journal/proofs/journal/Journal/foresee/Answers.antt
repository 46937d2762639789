use Rattle.std.proofs.Common.{sym, ap}
use Rattle.stm_journal.specs.JournalState.{JournalState}
use Rattle.stm_journal.proofs.journal.Journal.foresee.Goals as goal

pub returns-clause-verdict : goal.returns-clause-verdict
returns-clause-verdict c = c.foresee.ensures.verdict c.args.self.now (sym (ap (λ (h : JournalState). h.standing) c.self.view_is))
