use Rattle.std.proofs.Common.{◌+◌, ◌*◌}
use Rattle.stm_program.specs.Size.{expression_nodes}
use Rattle.stm_sites.proofs.expressions.+values.Given as goal

abbrev pub decreases-part_value : goal.decreases-part_value
decreases-part_value g l = 3 * expression_nodes l.expression.now + 1

abbrev pub decreases-value_of : goal.decreases-value_of
decreases-value_of g l = 3 * expression_nodes l.expression.now

abbrev pub decreases-combined : goal.decreases-combined
decreases-combined g l = 3 * (expression_nodes l.left.now + expression_nodes l.right.now) + 2

abbrev pub decreases-joined : goal.decreases-joined
decreases-joined g l = 3 * (expression_nodes l.left.now + expression_nodes l.right.now) + 2

abbrev pub decreases-value_at : goal.decreases-value_at
decreases-value_at g l = 3 * expression_nodes l.key.now + 2

abbrev pub decreases-revision_at : goal.decreases-revision_at
decreases-revision_at g l = 3 * expression_nodes l.key.now + 2

abbrev pub decreases-text_at : goal.decreases-text_at
decreases-text_at g l = 3 * expression_nodes l.number.now + 2

abbrev pub decreases-number_at : goal.decreases-number_at
decreases-number_at g l = 3 * expression_nodes l.text.now + 2
