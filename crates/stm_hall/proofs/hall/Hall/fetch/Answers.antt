use Rattle.std.proofs.Common.{sym, subst}
use Rattle.stm_hall.specs.Locked.{IsLocked}
use Rattle.stm_hall.proofs.hall.Hall.fetch.Goals as goal

-- it is as it was
pub invariant_of-self : goal.invariant_of-self
invariant_of-self c = subst IsLocked (sym c.fetch.ensures.same) c.self.invariant
