use Rattle.std.proofs.Common.{sym, subst, [], ◌∷◌}
use Rattle.stm_history.specs.declared.change.Change.{Change}
use Rattle.stm_txn.specs.Leasing.{attached_of, AttachedToLive}
use Rattle.stm_txn.proofs.store.Store.finish_put.Goals as goal

pub add_revision-requires-clause-live : goal.add_revision-requires-clause-live
add_revision-requires-clause-live c =
    subst (λ (x : Change). AttachedToLive c.args.self.now.standing.live (attached_of (x ∷ []))) (sym c.in_ok-change.ensures) c.requires.live
