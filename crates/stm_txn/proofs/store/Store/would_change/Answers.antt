use Rattle.std.proofs.Common.{◌∙◌, ap}
use Rattle.stm_outcome.specs.Outcome.{would_change}
use Rattle.stm_txn.specs.Store.{StoreView}
use Rattle.stm_txn.proofs.Counting.{reported_revision}
use Rattle.stm_txn.proofs.store.Store.would_change.Goals as goal

pub returns-clause-revision : goal.returns-clause-revision
returns-clause-revision c =
    reported_revision c.args.self.now.standing c.args.txn.now c.would_change.result
    (c.would_change.ensures ∙ ap (λ (v : StoreView). would_change v.standing.history c.args.txn.now) c.self.view_is)
