use Rattle.stm_lists.proofs.Viewed.{contains_node, has_node}
use Rattle.stm_lists.proofs.linked.Lists.has_node.Goals as goal

pub returns : goal.returns
returns g c =
    let tests = rw c.index.ensures at c.contains.ensures in (
      λ true. has_node _ _ _ _ c.self.view_is c.self.invariant.sound _ (tests.0 true),
      λ has. tests.1 (contains_node _ _ _ _ c.self.view_is c.self.invariant.sound _ has),
    )
