use Rattle.std.proofs.Common.{sym, ◌∙◌}
use Rattle.stm_leases.proofs.Seen.{contains-now, range-now, attach-on-live}
use Rattle.stm_leases.proofs.table.Leases.is_live.Goals as goal

pub returns-clause-live : goal.returns-clause-live
returns-clause-live c = c.contains_key.ensures ∙ sym (contains-now c.self.inside.leases c.self.inside.attached _ _ c.self.view_is c.args.id)

pub returns-clause-in_range : goal.returns-clause-in_range
returns-clause-in_range c = range-now c.self.inside.leases c.self.inside.attached _ _ c.self.view_is c.self.invariant.in_range

pub returns-clause-attach_on_live : goal.returns-clause-attach_on_live
returns-clause-attach_on_live c = attach-on-live c.self.inside.leases c.self.inside.attached _ _ c.self.view_is c.self.inside.keys c.self.invariant.in_step
