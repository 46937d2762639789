use Rattle.std.proofs.Common.{length}
use Rattle.stm_program.proofs.list.+repeats.Given as goal

abbrev pub decreases-repeats : goal.decreases-repeats
decreases-repeats l = length l.keys.now
