use Rattle.std.proofs.Common.{None, subst}
use Rattle.std.proofs.lemmas.Result.{IfOk-weaker, IfErr-weaker}
use Rattle.stm_journal.specs.JournalState.{JournalState, journal_of}
use Rattle.stm_journal.specs.Entering.{IsAdvanced, HasStopped}
use Rattle.stm_journal.proofs.journal.Journal.advance.Goals as goal

pub returns-clause-ok : goal.returns-clause-ok
returns-clause-ok c =
    let after : JournalState = journal_of c.advance.new.store.standing c.advance.new.entries.items c.self.inside.start in
    IfOk-weaker c.advance.result _ _ (λ expired reported.
    subst (λ (h : JournalState). IsAdvanced h c.args.moment expired.items None after) c.self.view_is (reported c.self.inside.start)) c.advance.ensures.ok

pub returns-clause-refused : goal.returns-clause-refused
returns-clause-refused c =
    let after : JournalState = journal_of c.advance.new.store.standing c.advance.new.entries.items c.self.inside.start in
    IfErr-weaker c.advance.result _ _ (λ stopped reported.
    subst (λ (h : JournalState). HasStopped h c.args.moment stopped.expired stopped.cause after) c.self.view_is (reported c.self.inside.start))
    c.advance.ensures.refused
