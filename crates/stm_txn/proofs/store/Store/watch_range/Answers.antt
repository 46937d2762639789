use Rattle.std.proofs.Common.{subst}
use Rattle.stm_watch.specs.declared.watched.Watched.TheVariants.{Range}
use Rattle.stm_txn.specs.Standing.{Returns, watched}
use Rattle.stm_txn.specs.Store.{StoreView}
use Rattle.stm_txn.proofs.store.Store.watch_range.Goals as goal

pub returns-clause-step : goal.returns-clause-step
returns-clause-step c =
    subst (λ (v : StoreView). Returns (watched v.standing (Range c.args.first.now c.args.end.now) c.args.from) c.add_range.result c.add_range.new.self.standing)
    c.prepare_search.ensures c.add_range.ensures.step
