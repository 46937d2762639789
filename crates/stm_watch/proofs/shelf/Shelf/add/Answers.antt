use Rattle.std.proofs.Common.{refl}
use Rattle.std.proofs.lemmas.Result.{on_ok_weaker}
use Rattle.stm_watch.proofs.Entered.{unsettled_shelf}
use Rattle.stm_watch.proofs.shelf.Shelf.add.Goals as goal

pub returns-clause-kept : goal.returns-clause-kept
returns-clause-kept c ws e had = unsettled_shelf ws e _ refl (c.enter-entered.ensures.kept ws e had.there)

pub returns-clause-ok : goal.returns-clause-ok
returns-clause-ok c =
    on_ok_weaker c.enter-entered.result (λ entered (ws : _). unsettled_shelf ws c.args.entry _ refl (entered ws)) c.enter-entered.ensures.ok
