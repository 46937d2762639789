use Rattle.std.proofs.Common.{arith}
use Rattle.stm_program.proofs.SameLemmas.{both_empty}
use Rattle.stm_program.proofs.WeightLemmas.{first_weight, rest_weight}
use Rattle.stm_program.proofs.same.+same.Goals as goal

pub are_same_statements-are_same_steps-requires : goal.are_same_statements-are_same_steps-requires
are_same_statements-are_same_steps-requires t c =
    (omega (arith, c.decreases, first_weight c.args.left.now c.first-item.result c.in-len1-up.len_at_least c.first-item.is), tt)

pub are_same_statements-are_same_statements-requires : goal.are_same_statements-are_same_statements-requires
are_same_statements-are_same_statements-requires t c =
    (omega (arith, c.decreases, rest_weight c.args.left.now c.in-len1-up.len_at_least), tt)

pub are_same_statements-returns-in-empty : goal.are_same_statements-returns-in-empty
are_same_statements-returns-in-empty t c = both_empty c.args.left.now c.args.right.now c.is_empty.result c.in-empty.len_below c.is_empty.ensures
