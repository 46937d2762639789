use Rattle.std.proofs.Common.{length}
use Rattle.stm_source.proofs.bulk.+keys_room.Given as goal

abbrev pub decreases-keys_room : goal.decreases-keys_room
decreases-keys_room l = length l.keys.now
