use Rattle.std.proofs.Common.{refl}
use Rattle.stm_watch.proofs.Entered.{unsettled_shelf}
use Rattle.stm_watch.proofs.shelf.Shelf.remove.Goals as goal

pub returns : goal.returns
returns c ws e differs had = unsettled_shelf ws e _ refl (c.remove_from.ensures ws e differs had.there)
