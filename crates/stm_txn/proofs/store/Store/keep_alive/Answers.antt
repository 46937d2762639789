use Rattle.std.proofs.Common.{◌∙◌, ap}
use Rattle.std.specs.FinMap as finmap
use Rattle.stm_txn.proofs.Ending.{renewed_attached}
use Rattle.stm_txn.proofs.store.Store.keep_alive.Goals as goal

pub invariant_of-self : goal.invariant_of-self
invariant_of-self c = (
  λ key.
      ap (λ m. finmap.get m key)
      (renewed_attached c.keep_alive.result c.self.inside.leases c.keep_alive.new.self c.args.id _ c.keep_alive.ensures.found c.keep_alive.ensures.ok
      c.keep_alive.ensures.err)
      ∙ c.self.invariant.0 key,
  c.self.invariant.1,
  c.self.invariant.2,
  c.self.invariant.3,
  c.self.invariant.4,
)
