use Rattle.stm_world.proofs.Restored.{restored_is_sound}
use Rattle.stm_world.proofs.laws.restored_worlds_are_sound.Goals as goal

pub returns : goal.returns
returns c = restored_is_sound
