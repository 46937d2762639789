use Rattle.std.proofs.Common.{◌≤◌, subst}
use Rattle.stm_outcome.specs.Terms.{most_operations}
use Rattle.stm_txn.specs.Store.{StoreView}
use Rattle.stm_txn.proofs.store.Store.limit.Goals as goal

pub returns-clause-some : goal.returns-clause-some
returns-clause-some c = subst (λ (v : StoreView). 1 ≤ v.standing.limit) c.self.view_is (subst (λ n. 1 ≤ n) c.count.ensures.same c.count.ensures.some)

pub returns-clause-few : goal.returns-clause-few
returns-clause-few c =
    subst (λ (v : StoreView). v.standing.limit ≤ most_operations) c.self.view_is
    (subst (λ n. n ≤ most_operations) c.count.ensures.same c.count.ensures.few)
