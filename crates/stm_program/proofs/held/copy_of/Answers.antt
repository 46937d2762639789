use Rattle.std.proofs.Common.{ap}
use Rattle.std.specs.List.{each_same}
use Rattle.stm_program.specs.BlockView.{block_of}
use Rattle.stm_program.proofs.held.copy_of.Goals as goal

pub returns : goal.returns
returns c = ap block_of (each_same _ _ c.in_ok-copy.ensures.cases.0)
