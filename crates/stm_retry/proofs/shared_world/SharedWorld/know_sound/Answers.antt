use Rattle.std.proofs.Common.{subst}
use Rattle.stm_world.specs.Sound.{IsSound}
use Rattle.stm_retry.proofs.shared_world.SharedWorld.know_sound.Goals as goal

pub returns : goal.returns
returns c = subst IsSound c.self.view_is c.self.invariant
