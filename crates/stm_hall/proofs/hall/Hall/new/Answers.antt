use Rattle.std.proofs.Common.{sym, subst}
use Rattle.stm_hall.specs.Locked.{IsLocked}
use Rattle.stm_hall.proofs.Opening.{halls_open_as_their_store}
use Rattle.stm_hall.proofs.hall.Hall.new.Goals as goal

-- a hall over a store is locked
pub invariant_of-result : goal.invariant_of-result
invariant_of-result c = subst IsLocked (sym c.new.ensures) (halls_open_as_their_store c.args.store.standing).locked
