use Rattle.std.proofs.Common.{◌≤◌, subst}
use Rattle.stm_history.specs.declared.revisions.TheConstants.{HIGHEST_REVISION}
use Rattle.stm_history.specs.History.{now}
use Rattle.stm_leases.specs.Live.{AreInRange}
use Rattle.stm_txn.specs.Store.{StoreView}
use Rattle.stm_txn.proofs.Fitting.{expired_fits}
use Rattle.stm_txn.proofs.store.Store.expire.Goals as goal

pub returns-clause-numbers : goal.returns-clause-numbers
returns-clause-numbers c =
    expired_fits c.args.self.now.standing c.end_lease.new.self.standing c.args.id
    (subst (λ (s : StoreView). now s.standing.history ≤ HIGHEST_REVISION) c.self.view_is
    (subst (λ n. n ≤ HIGHEST_REVISION) c.revision-counter.ensures.value c.revision-counter.ensures.bounded))
    (subst (λ (s : StoreView). AreInRange s.standing.live) c.self.view_is c.ids_are_in_range.ensures)
    c.requires c.in_ok-end_lease.ensures.ok
