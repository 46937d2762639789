use Rattle.std.proofs.Common.{◌≡◌, ◌≤◌, sym, subst}
use Rattle.stm_history.specs.History.{now}
use Rattle.stm_keys.specs.Keys.{Contents}
use Rattle.stm_leases.specs.Leases.{lease_of}
use Rattle.stm_outcome.specs.Numbers.{LeasesFit}
use Rattle.stm_watch.specs.Calls.{StandFor}
use Rattle.stm_txn.specs.Leasing.{AttachedAsStored}
use Rattle.stm_txn.proofs.store.Store.prepare_search.Goals as goal

pub invariant_of-self : goal.invariant_of-self
invariant_of-self c =
    subst (λ (k : Contents). AttachedAsStored (lease_of c.self.inside.leases) k.history × LeasesFit k.history × StandFor k.history c.self.inside.watchers
    × (c.self.inside.watchers.floor ≡ k.floor) × (k.floor ≤ now k.history))
    (sym c.sum_up.ensures) c.self.invariant
