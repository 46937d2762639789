use Rattle.std.proofs.Common.{ℕ, ◌+◌, ◌<◌, drop}
use Rattle.stm_frames.specs.Frame.{NoFrame}
use Rattle.stm_frames.proofs.reading.has_frame.Given as goal

abbrev pub invariant-loop-at : goal.invariant-loop-at
invariant-loop-at l = (k : ℕ) → l.fn.from + k < l.at → NoFrame (l.fn.from + k) (drop (l.fn.from + k) l.bytes)
