use Rattle.std.proofs.Common.{◌≡◌, OnErr, subst}
use Rattle.stm_txn.specs.Standing.{Returns, polled, poll_refused}
use Rattle.stm_txn.specs.Store.{StoreView}
use Rattle.stm_txn.proofs.store.Store.poll.Goals as goal

pub returns-clause-step : goal.returns-clause-step
returns-clause-step c =
    subst (λ (v : StoreView). Returns (polled v.standing c.args.id c.args.most) c.poll_prepared.result c.poll_prepared.new.self.standing) c.prepare_search.ensures
    c.poll_prepared.ensures.step

pub returns-clause-refused : goal.returns-clause-refused
returns-clause-refused c =
    subst (λ (v : StoreView). OnErr c.poll_prepared.result (c.poll_prepared.new.self.standing ≡ poll_refused v.standing c.args.id)) c.prepare_search.ensures
    c.poll_prepared.ensures.refused
