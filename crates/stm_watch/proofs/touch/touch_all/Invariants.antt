use Rattle.std.proofs.Common.{◌≡◌, map, option_map, take}
use Rattle.stm_keys.specs.Events.{change_of_event}
use Rattle.stm_watch.specs.Pages.{AreFound}
use Rattle.stm_watch.specs.Touch.{touch}
use Rattle.stm_watch.proofs.touch.touch_all.Given as goal

-- the events so far were noted
abbrev pub invariant-loop-event : goal.invariant-loop-event
invariant-loop-event l = record {
  noted : l.slots ≡ map (option_map (touch l.revision (map change_of_event (take l.event-index l.events)))) l.fn.slots;
  found : AreFound l.index l.groups l.slots;
}
