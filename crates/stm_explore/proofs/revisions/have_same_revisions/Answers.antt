use Rattle.std.proofs.Common.{sym, ◌∙◌, arith}
use Rattle.stm_explore.proofs.SameRevisions.{none_yet, one_more, all_same}
use Rattle.stm_explore.proofs.revisions.have_same_revisions.Goals as goal

pub loop-number-init : goal.loop-number-init
loop-number-init c = none_yet c.below-below.result c.args.left.now.history c.args.right.now.history c.below-below.ensures

pub loop-number-preserved : goal.loop-number-preserved
loop-number-preserved c =
    one_more c.loop-number.number c.args.left.now.history c.args.right.now.history
    (sym c.events_at.ensures ∙ c.are_same_events.ensures.0 c.if-not-are_same_events.false ∙ c.events_at-in-loop-number.ensures) c.loop-number.invariant

pub returns-clause-revisions : goal.returns-clause-revisions
returns-clause-revisions c = λ is.
    all_same c.loop-number.number c.revision-last.result c.args.left.now.history c.args.right.now.history c.revision-last.ensures.value
    (c.if-last-revision.false ∙ c.revision.ensures.value) (omega arith) c.loop-number.invariant
