use Rattle.std.proofs.Common.{◌≡◌, is_some, drop}
use Rattle.std.specs.List.{list_any}
use Rattle.stm_watch.proofs.slots.has_watcher.Given as goal

-- what is left decides
abbrev pub invariant-loop-slot : goal.invariant-loop-slot
invariant-loop-slot l = list_any is_some l.places ≡ list_any is_some (drop l.slot-index l.places)
