use Rattle.std.proofs.Common.{◌∙◌}
use Rattle.stm_txn.proofs.store.Store.cancel.Goals as goal

pub invariant_of-self : goal.invariant_of-self
invariant_of-self c = (
  c.self.invariant.0,
  c.self.invariant.1,
  c.cancel.ensures.stand c.self.inside.keys.history c.self.invariant.2,
  c.cancel.ensures.floor
      ∙ c.self.invariant.3,
  c.self.invariant.4,
)
