use Rattle.std.proofs.Common.{arith}
use Rattle.stm_workers.proofs.AuditLemmas.{before_the_run, above_the_counter, shown_at_its_revision}
use Rattle.stm_workers.proofs.auditing.are_of_one_state.Goals as goal

pub returns-then-revision-begun : goal.returns-then-revision-begun
returns-then-revision-begun c =
    before_the_run c.args.begun c.args.hall.now c.args.reads.now c.revision_of-revision.result c.revision_of-revision.ensures (omega (arith, c.if-revision-begun.true))

pub returns-then-revision : goal.returns-then-revision
returns-then-revision c =
    above_the_counter c.args.begun c.args.hall.now c.args.reads.now c.revision_of-revision.result c.revision.result c.revision_of-revision.ensures
    c.revision.ensures (omega (arith, c.if-revision.true))

pub returns : goal.returns
returns c =
    shown_at_its_revision c.args.begun c.args.hall.now c.args.reads.now c.revision_of-revision.result c.revision.result c.are_shown_at.result
    c.revision_of-revision.ensures c.revision.ensures (omega (arith, c.if-revision-begun.false)) (omega (arith, c.if-revision.false))
    c.are_shown_at.ensures
