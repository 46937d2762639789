-- The tree of a condition, whose parts are seen as their trees already.
use Rattle.stm_program.specs.Syntax as tree
use Rattle.stm_program.specs.Syntax.{Condition}
use Rattle.stm_program.specs.declared.condition.CondNode.{CondNode}
use Rattle.stm_program.specs.declared.condition.CondNode.TheVariants.{Equal, Less, Not, And, Or}

abbrev pub condition_of : CondNode → Condition
condition_of (Equal l r) = tree.Equal l.value r.value
condition_of (Less l r) = tree.Less l.value r.value
condition_of (Not c) = tree.Not c.value
condition_of (And c d) = tree.And c.value d.value
condition_of (Or c d) = tree.Or c.value d.value
