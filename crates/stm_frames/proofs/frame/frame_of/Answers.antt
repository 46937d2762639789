use Rattle.std.proofs.Common.{rules}
use Rattle.stm_frames.specs.Frame.{frame}
use Rattle.stm_frames.proofs.frame.frame_of.Goals as goal

pub returns : goal.returns
unfolding frame
returns c = search rules
