use Rattle.std.proofs.Common.{subst}
use Rattle.stm_watch.specs.Calls.{IsNextPending}
use Rattle.stm_txn.specs.Store.{StoreView}
use Rattle.stm_txn.proofs.store.Store.next_ready.Goals as goal

pub returns : goal.returns
returns c =
    subst (λ (s : StoreView). IsNextPending s.standing.history s.standing.watchers c.next_ready.result) c.self.view_is
    (c.next_ready.ensures.pending c.self.inside.keys.history c.self.invariant.2)
