use Rattle.std.proofs.Common.{vec_len}
use Rattle.stm_workers.proofs.employing.give_up.Given as goal

abbrev pub decreases-loop-handle : goal.decreases-loop-handle
decreases-loop-handle g l = vec_len l.started
