use Rattle.std.proofs.Common.{◌≡◌, ◌∙◌, ◌+◌, ◌++◌, ◌∷◌, [], List, ap, map, option_map, sym, take}
use Rattle.std.proofs.lemmas.Grind.{take_at_read}
use Rattle.stm_keys.specs.declared.event.Event.{Event}
use Rattle.stm_keys.specs.Events.{change_of_event, key_of_event}
use Rattle.stm_watch.specs.Touch.{touch, touch_key}
use Rattle.stm_watch.proofs.Touching.{touch_none, touch_next}
use Rattle.stm_watch.proofs.touch.touch_all.Goals as goal

pub loop-event-init : goal.loop-event-init
loop-event-init c = record { noted = touch_none c.args.revision c.args.slots.now; found = c.requires }

pub loop-event-preserved : goal.loop-event-preserved
loop-event-preserved c =
    let events : List Event = c.args.events.now in
    let so_far : List Event = take c.loop-event.event-index events in
    let e : Event = c.event-item.result in
    let one : take (c.loop-event.event-index + 1) events ≡ so_far ++ e ∷ [] =
    (take_at_read events c.loop-event.event-index e c.loop-event-test.true).1 ∙ ap (λ (x : Event). so_far ++ x ∷ []) (sym c.event-item.is) in
    record {
      noted =
          c.touch_of.ensures.slots
          ∙ ap (λ k. map (option_map (touch_key c.args.revision k)) c.loop-event.slots) c.key.ensures
          ∙ ap (map (option_map (touch_key c.args.revision (key_of_event e)))) c.loop-event.invariant.noted
          ∙ touch_next c.args.revision e so_far c.args.slots.now
          ∙ ap (λ es. map (option_map (touch c.args.revision (map change_of_event es))) c.args.slots.now) (sym one);
      found = c.touch_of.ensures.found;
    }
