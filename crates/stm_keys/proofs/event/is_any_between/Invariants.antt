use Rattle.std.proofs.Common.{◌≡◌, drop}
use Rattle.stm_keys.specs.NextChange.{is_between}
use Rattle.stm_keys.specs.Runs.{is_any_about}
use Rattle.stm_keys.proofs.event.is_any_between.Given as goal

-- they are looked for in the rest
abbrev pub invariant-loop-event : goal.invariant-loop-event
invariant-loop-event l = is_any_about (is_between l.first l.end) (drop l.event-index l.events) ≡ is_any_about (is_between l.first l.end) l.events
