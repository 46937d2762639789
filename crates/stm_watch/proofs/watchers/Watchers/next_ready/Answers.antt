use Rattle.std.proofs.Common.{subst}
use Rattle.stm_watch.specs.Places.{WatchersView}
use Rattle.stm_watch.specs.Calls.{IsNextReady}
use Rattle.stm_watch.proofs.Standing.{next_pending}
use Rattle.stm_watch.proofs.watchers.Watchers.next_ready.Goals as goal

pub returns-clause-ready : goal.returns-clause-ready
returns-clause-ready c = subst (λ (v : WatchersView). IsNextReady v.places c.next_ready.result) c.self.view_is c.next_ready.ensures

pub returns-clause-pending : goal.returns-clause-pending
returns-clause-pending c h stand =
    next_pending h c.args.self.now c.next_ready.result stand
    (subst (λ (v : WatchersView). IsNextReady v.places c.next_ready.result) c.self.view_is c.next_ready.ensures)
