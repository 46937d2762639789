use Rattle.std.proofs.Common.{length, ap, sym, ◌∙◌}
use Rattle.stm_lists.proofs.Viewed.{entries-now}
use Rattle.stm_lists.proofs.linked.Lists.len.Goals as goal

pub returns : goal.returns
returns g c =
    let found = rw c.index.ensures at c.index-2.ensures in
    (c.self.invariant.sound.linked _ _ found).len ∙ ap length (sym (entries-now _ c.self.inside.heads _ _ c.self.view_is _ _ found))
