-- The events of a revision, wherever they stand.
use Rattle.std.specs.Prelude.{List, [], ◌∷◌}
use Rattle.stm_keys.specs.declared.event.Event.{Event}
use Rattle.stm_keys.specs.declared.events.Held.{Held}
use Rattle.stm_keys.specs.declared.events.Held.TheVariants.{One, More, Ascending}
use Rattle.stm_keys.specs.Within.{Ascend}

abbrev pub events_held : Held → List Event
events_held (One event) = event ∷ []
events_held (More events) = events.items
events_held (Ascending events) = events.items

-- those of which it is noted do ascend
abbrev pub IsInOrder : Held → Type 0
IsInOrder (One event) = Unit {0}
IsInOrder (More events) = Unit {0}
IsInOrder (Ascending events) = Ascend events.items
