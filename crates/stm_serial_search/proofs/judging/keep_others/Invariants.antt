use Rattle.std.proofs.Common.{◌≡◌, ◌++◌, map, take, drop}
use Rattle.stm_serial_search.specs.Replaying.{or_always}
use Rattle.stm_serial_search.proofs.judging.keep_others.Given as goal

-- the rules so far are kept or were decided, and those after them are as they were
abbrev pub invariant-loop-i : goal.invariant-loop-i
invariant-loop-i l = l.judged.items ≡ map or_always (take l.i l.fn.judged.items) ++ drop l.i l.fn.judged.items
