use Rattle.std.proofs.Common.{take}
use Rattle.stm_schedules.specs.Places.{Place}
use Rattle.stm_serial_search.specs.Replaying.{AreJudged}
use Rattle.stm_serial_search.proofs.judging.none_decided.Given as goal

-- what is known of the rules so far
abbrev pub invariant-loop-index : goal.invariant-loop-index
invariant-loop-index l = (p : Place) → AreJudged (take l.index l.rules) p l.judged.items
