use Rattle.std.proofs.Common.{length}
use Rattle.stm_program.proofs.list.+are_same_keys.Given as goal

abbrev pub decreases-are_same_keys : goal.decreases-are_same_keys
decreases-are_same_keys l = length l.left.now
