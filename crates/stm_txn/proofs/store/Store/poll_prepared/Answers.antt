use Rattle.std.proofs.Common.{◌≤◌, subst}
use Rattle.stm_history.specs.declared.revisions.TheConstants.{HIGHEST_REVISION}
use Rattle.stm_history.specs.History.{now}
use Rattle.stm_outcome.specs.Numbers.{LeasesFit}
use Rattle.stm_txn.specs.Store.{StoreView}
use Rattle.stm_txn.proofs.Polling.{batch_fits}
use Rattle.stm_txn.proofs.store.Store.poll_prepared.Goals as goal

pub returns-clause-numbers : goal.returns-clause-numbers
returns-clause-numbers c =
    batch_fits c.args.self.now.standing c.take_batch.new.self.standing c.args.id c.args.most c.in_ok-batch.batch
    (subst (λ (s : StoreView). now s.standing.history ≤ HIGHEST_REVISION) c.self.view_is
    (subst (λ n. n ≤ HIGHEST_REVISION) c.revision-counter.ensures.value c.revision-counter.ensures.bounded))
    (subst (λ (s : StoreView). LeasesFit s.standing.history) c.self.view_is c.self.invariant.1)
    c.in_ok-batch.ensures.step
