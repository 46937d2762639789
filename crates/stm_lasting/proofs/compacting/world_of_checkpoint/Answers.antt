use Rattle.stm_lasting.proofs.Compacted.{nothing_more}
use Rattle.stm_lasting.proofs.compacting.world_of_checkpoint.Goals as goal

pub returns : goal.returns
returns c = nothing_more _ _ c.in_ok-world.ensures
