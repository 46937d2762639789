use Rattle.std.proofs.Common.{arith, sym, ◌∙◌}
use Rattle.stm_storing.proofs.JobLemmas.{none_yet, one_more}
use Rattle.stm_storing.proofs.likeness.have_same_events.Goals as goal

pub loop-revision-init : goal.loop-revision-init
loop-revision-init c = none_yet c.args.since c.args.left.now.history c.args.right.now.history

pub loop-revision-preserved : goal.loop-revision-preserved
loop-revision-preserved c =
    one_more c.args.since c.loop-revision.revision c.args.left.now.history c.args.right.now.history c.loop-revision.invariant
    (sym c.events_at.ensures ∙ c.are_same_events.ensures.0 c.if-not-are_same_events.false ∙ c.events_at-in-loop-revision.ensures)

pub returns : goal.returns
returns c = λ same r above within. c.loop-revision.invariant r above (omega (arith, within, c.loop-revision-test.false))
