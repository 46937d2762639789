use Rattle.stm_narrow.proofs.Searching.{agreeing_places_are_same}
use Rattle.stm_narrow.proofs.laws.agreeing_places_are_same.Goals as goal

pub returns : goal.returns
returns c = agreeing_places_are_same
