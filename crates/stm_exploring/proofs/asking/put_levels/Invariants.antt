use Rattle.std.proofs.Common.{◌≡◌, ◌++◌, map, take, drop}
use Rattle.stm_schedules.specs.Scenarios.{at_level}
use Rattle.stm_exploring.proofs.asking.put_levels.Given as goal

-- the events so far have the level, and those after them are as they were
abbrev pub invariant-loop-i : goal.invariant-loop-i
invariant-loop-i l = l.events.items ≡ map (at_level l.level) (take l.i l.fn.events.items) ++ drop l.i l.fn.events.items
