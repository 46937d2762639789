use Rattle.stm_txn.proofs.Writing.{come}
use Rattle.stm_txn.proofs.store.Store.write.Goals as goal

pub returns-clause-step : goal.returns-clause-step
returns-clause-step c =
    come c.args.self.now.standing c.make.new.self.standing c.args.writes.items c.make.result c.requires c.make.ensures.ok c.make.ensures.refused
