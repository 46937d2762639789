use Rattle.std.proofs.Common.{length}
use Rattle.stm_terms.proofs.room.+others_room.Given as goal

abbrev pub decreases-others_room : goal.decreases-others_room
decreases-others_room l = length l.look_ups.now
