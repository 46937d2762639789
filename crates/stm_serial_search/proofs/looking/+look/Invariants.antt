use Rattle.std.proofs.Common.{◌+◌, ◌*◌, drop}
use Rattle.stm_serial_search.specs.Search.{keeps_all, point}
use Rattle.stm_serial_search.proofs.Looks.{SoFar}
use Rattle.stm_serial_search.proofs.looking.+look.Given as goal

abbrev pub decreases-look : goal.decreases-look
decreases-look g l = 4 * l.depth

abbrev pub decreases-look_after : goal.decreases-look_after
decreases-look_after g l = 4 * l.depth + 3

abbrev pub decreases-look_moved : goal.decreases-look_moved
decreases-look_moved g l = 4 * l.depth + 2

abbrev pub decreases-look_step : goal.decreases-look_step
decreases-look_step g l = 4 * l.depth + 1

abbrev pub decreases-look_other : goal.decreases-look_other
decreases-look_other g l = 4 * l.depth + 1

abbrev pub invariant-look-loop-chosen : goal.invariant-look-loop-chosen
invariant-look-loop-chosen g l =
    SoFar (keeps_all l.rules) l.depth (point l.world l.taken l.others) (drop l.chosen-index l.choices)
