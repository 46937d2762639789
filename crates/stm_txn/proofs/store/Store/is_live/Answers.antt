use Rattle.std.proofs.Common.{◌≡◌, ◌∙◌, subst, List, ℕ, Some, true}
use Rattle.stm_leases.specs.Live.{is_live_in, AreInRange}
use Rattle.stm_txn.specs.Leasing.{lease_now}
use Rattle.stm_txn.specs.Store.{StoreView}
use Rattle.stm_txn.proofs.store.Store.is_live.Goals as goal

pub returns-clause-attach_on_live : goal.returns-clause-attach_on_live
returns-clause-attach_on_live c =
    subst (λ (s : StoreView). (key : List ℕ) (lease : ℕ) → lease_now s.standing.history key ≡ Some lease →
    is_live_in s.standing.live lease ≡ true) c.self.view_is
    (λ key lease is. c.is_live.ensures.attach_on_live key lease (c.self.invariant.0 key ∙ is))

pub returns-clause-in_range : goal.returns-clause-in_range
returns-clause-in_range c = subst (λ (s : StoreView). AreInRange s.standing.live) c.self.view_is c.is_live.ensures.in_range
