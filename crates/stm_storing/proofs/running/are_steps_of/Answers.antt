use Rattle.std.proofs.Common.{arith}
use Rattle.stm_storing.proofs.PastKeys.{at_place}
use Rattle.stm_storing.proofs.RunLemmas.{one_more_step}
use Rattle.stm_storing.proofs.running.are_steps_of.Goals as goal

pub loop-event-preserved : goal.loop-event-preserved
loop-event-preserved c =
    one_more_step c.args.runner c.args.events.now c.loop-event.event-index c.event-item.result
    (at_place c.args.events.now c.loop-event.event-index c.event-item.result c.loop-event-test.true c.event-item.is)
    (c.is_step_of.ensures c.if-not-is_step_of.false) c.loop-event.invariant

pub returns : goal.returns
returns c = λ is k within. c.loop-event.invariant k (omega (arith, within, c.loop-event-test.false))
