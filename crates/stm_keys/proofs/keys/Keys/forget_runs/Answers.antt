use Rattle.stm_keys.proofs.keys.Keys.forget_runs.Goals as goal

pub invariant_of-self : goal.invariant_of-self
invariant_of-self c = (
  c.self.invariant.0,
  c.self.invariant.1,
  c.self.invariant.2,
  c.forget_up_to.ensures c.self.inside.below c.self.inside.revisions.items c.self.invariant.3,
)
