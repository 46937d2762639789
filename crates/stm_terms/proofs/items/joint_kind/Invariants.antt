use Rattle.std.proofs.Common.{◌≡◌, drop}
use Rattle.stm_terms.specs.Items.{joint_kind}
use Rattle.stm_terms.proofs.items.joint_kind.Given as goal

-- the items that are left decide
abbrev pub invariant-loop-item : goal.invariant-loop-item
invariant-loop-item l = joint_kind l.fn.kind l.items ≡ joint_kind l.kind (drop l.item-index l.items)
