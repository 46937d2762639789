use Rattle.std.proofs.Common.{◌≤◌, subst}
use Rattle.stm_history.specs.History.{now}
use Rattle.stm_txn.specs.Store.{StoreView}
use Rattle.stm_txn.proofs.store.Store.floor.Goals as goal

pub returns-clause-reached : goal.returns-clause-reached
returns-clause-reached c = subst (λ (v : StoreView). v.standing.floor ≤ now v.standing.history) c.self.view_is c.self.invariant.4
