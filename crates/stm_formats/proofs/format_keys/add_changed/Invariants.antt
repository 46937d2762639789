use Rattle.std.proofs.Common.{◌≡◌, drop, map}
use Rattle.stm_keys.specs.Events.{key_of_event}
use Rattle.stm_formats.specs.FormatKeys.{with_keys}
use Rattle.stm_formats.proofs.format_keys.add_changed.Given as goal

-- what the events that are left add to the keys so far
abbrev pub invariant-loop-event : goal.invariant-loop-event
invariant-loop-event l =
    with_keys l.most l.keys.items (map key_of_event (drop l.event-index l.events)) ≡ with_keys l.most l.fn.keys.items (map key_of_event l.events)
