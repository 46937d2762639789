use Rattle.std.proofs.Common.{length}
use Rattle.stm_terms.proofs.room.+values_room.Given as goal

abbrev pub decreases-values_room : goal.decreases-values_room
decreases-values_room l = length l.values.now
