use Rattle.std.proofs.Common.{length}
use Rattle.stm_program.proofs.list.+has_no_key.Given as goal

abbrev pub decreases-has_no_key : goal.decreases-has_no_key
decreases-has_no_key l = length l.keys.now
