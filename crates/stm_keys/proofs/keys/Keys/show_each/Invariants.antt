use Rattle.std.proofs.Common.{◌≡◌, ◌+◌, map}
use Rattle.stm_history.specs.History.{now, key_now}
use Rattle.stm_keys.specs.Events.{event_of}
use Rattle.stm_keys.proofs.keys.Keys.show_each.Given as goal

-- the events of the changes so far
abbrev pub invariant-loop-change : goal.invariant-loop-change
invariant-loop-change l = l.events.items ≡ map (event_of (now l.self.history + 1) (key_now l.self.history)) l.yielded
