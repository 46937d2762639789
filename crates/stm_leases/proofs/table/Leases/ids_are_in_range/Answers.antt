use Rattle.stm_leases.proofs.Seen.{range-now}
use Rattle.stm_leases.proofs.table.Leases.ids_are_in_range.Goals as goal

pub returns : goal.returns
returns c = range-now c.self.inside.leases c.self.inside.attached _ _ c.self.view_is c.self.invariant.in_range
