use Rattle.std.proofs.Common.{arith, ◌∙◌}
use Rattle.stm_keys.specs.Events.{key_of_event}
use Rattle.stm_storing.proofs.PastKeys.{at_place, no_place, place_added, narrowed, events_stand}
use Rattle.stm_storing.proofs.past.add_changed.Goals as goal

pub loop-event-init : goal.loop-event-init
loop-event-init c = no_place c.args.keys.now.history c.args.revision key_of_event c.args.events.now

pub loop-event-preserved : goal.loop-event-preserved
loop-event-preserved c =
    place_added c.args.keys.now.history c.args.revision key_of_event c.args.events.now c.loop-event.event-index c.event-item.result c.as_str.result.now
    (at_place c.args.events.now c.loop-event.event-index c.event-item.result c.loop-event-test.true c.event-item.is) (c.as_str.ensures ∙ c.key.ensures)
    c.loop-event.invariant c.in_ok-add_key_at.ensures

pub returns : goal.returns
returns c =
    narrowed c.args.keys.now.history c.args.revision
    (λ q some.
    let d = events_stand c.args.events.now q some in
    (d.0, d.1, omega (arith, d.2, c.loop-event-test.false), d.3, d.4))
    c.loop-event.invariant
