use Rattle.std.proofs.Common.{rules}
use Rattle.stm_frames.specs.Frame.{digest}
use Rattle.stm_frames.proofs.digest.digest_of.Goals as goal

pub returns : goal.returns
unfolding digest
returns c = search rules
