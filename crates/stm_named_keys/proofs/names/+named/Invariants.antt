use Rattle.std.proofs.Common.{◌+◌, ◌*◌}
use Rattle.stm_program.specs.Size.{expression_nodes}
use Rattle.stm_named_keys.proofs.names.+named.Given as goal

abbrev pub decreases-named : goal.decreases-named
decreases-named l = 2 * expression_nodes l.expression.now

abbrev pub decreases-both_named : goal.decreases-both_named
decreases-both_named l = 2 * (expression_nodes l.left.now + expression_nodes l.right.now) + 1
