-- What a clone of a node has. No public clause cites this module.
use Rattle.std.specs.Prelude.{◌≡◌}
use Rattle.stm_lists.specs.declared.links.Node.{Node}

-- the same list and neighbours, and a clone of its value
pub record IsNodeClone {T : Type 0} (is_clone : T → T → Type 0) (x copy : Node T) : Type 0 where
  pub list : copy.list ≡ x.list
  pub previous : copy.previous ≡ x.previous
  pub next : copy.next ≡ x.next
  pub value : is_clone x.value copy.value
