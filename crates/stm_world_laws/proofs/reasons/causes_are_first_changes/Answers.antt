use Rattle.stm_world_laws.proofs.Making.{causes_are_first_changes}
use Rattle.stm_world_laws.proofs.reasons.causes_are_first_changes.Goals as goal

pub returns : goal.returns
returns c = causes_are_first_changes
