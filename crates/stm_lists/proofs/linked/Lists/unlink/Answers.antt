use Rattle.std.proofs.Common.{refl}
use Rattle.stm_lists.proofs.Viewed.{contains_node, fresh-now, place-now, updates-now}
use Rattle.stm_lists.proofs.linked.Lists.unlink.Goals as goal

pub unlink-value-requires-clause-there : goal.unlink-value-requires-clause-there
unlink-value-requires-clause-there g c = contains_node _ _ _ _ c.self.view_is c.self.invariant.sound _ c.requires

pub returns-clause-unlinked : goal.returns-clause-unlinked
returns-clause-unlinked g c =
    λ place at.
    updates-now _ _ _ _ c.self.view_is _ _ _ _ _ (c.unlink-value.ensures.shows place (place-now _ c.self.inside.heads _ _ c.self.view_is c.args.node place at))

pub returns-clause-gone : goal.returns-clause-gone
returns-clause-gone g c = fresh-now c.unlink-value.new.nodes c.unlink-value.new.heads _ _ refl c.unlink-value.ensures.sound _ c.unlink-value.ensures.gone
