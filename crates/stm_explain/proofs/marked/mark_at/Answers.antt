use Rattle.std.proofs.Common.{arith}
use Rattle.stm_explain.proofs.MarkLemmas.{mark-small, mark-on}
use Rattle.stm_explain.proofs.marked.mark_at.Goals as goal

pub position_from-at-requires-clause-small : goal.position_from-at-requires-clause-small
position_from-at-requires-clause-small c = omega (arith, (mark-small c.args.text.now c.args.mark c.requires).0)

pub position_from-at-requires-clause-counted : goal.position_from-at-requires-clause-counted
position_from-at-requires-clause-counted c = (mark-small c.args.text.now c.args.mark c.requires).1

pub returns : goal.returns
returns c =
    mark-on c.args.text.now c.args.mark (record { offset = c.args.offset; at = c.position_from-at.result }) c.requires c.if-offset-mark.false c.if-offset-text.false
    c.position_from-at.ensures
