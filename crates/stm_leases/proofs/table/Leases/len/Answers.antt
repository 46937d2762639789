use Rattle.std.proofs.Common.{◌∙◌}
use Rattle.stm_leases.proofs.Seen.{len-now}
use Rattle.stm_leases.proofs.table.Leases.len.Goals as goal

pub returns : goal.returns
returns c = c.len.ensures.len ∙ len-now c.self.inside.leases c.self.inside.attached _ _ c.self.view_is c.len.ensures.unique
