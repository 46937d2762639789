use Rattle.std.proofs.Common.{◌∙◌}
use Rattle.stm_lists.proofs.Viewed.{contains_node, node-now, names-neighbours}
use Rattle.stm_lists.proofs.linked.Lists.stored.Goals as goal

pub index-requires-2 : goal.index-requires-2
index-requires-2 g c = rw c.index.ensures (contains_node _ _ _ _ c.self.view_is c.self.invariant.sound _ c.requires)

pub returns : goal.returns
returns g c =
    let found = rw c.index.ensures at c.index-2.ensures in
    λ place at. node-now _ c.self.inside.heads _ _ c.self.view_is c.self.invariant.sound _ _ found place at ∙ names-neighbours place
