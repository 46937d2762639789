use Rattle.std.proofs.Common.{ap, sym, ◌∙◌}
use Rattle.stm_lists.specs.Lists.{first_node}
use Rattle.stm_lists.proofs.Viewed.{entries-now, first_or-node}
use Rattle.stm_lists.proofs.linked.Lists.front.Goals as goal

pub returns : goal.returns
returns g c =
    let found = rw c.index.ensures at c.index-2.ensures in
    c.of_link.ensures ∙ (c.self.invariant.sound.linked _ _ found).first ∙ first_or-node _
    ∙ ap first_node (sym (entries-now _ c.self.inside.heads _ _ c.self.view_is _ _ found))
