use Rattle.std.proofs.Common.{arith}
use Rattle.stm_program.proofs.WeightLemmas.{first_weight, rest_weight}
use Rattle.stm_exploring.proofs.elses.+statements.Goals as goal

pub have_else-has_else-requires : goal.have_else-has_else-requires
have_else-has_else-requires t c =
    (omega (arith, c.requires, first_weight c.args.statements.now c.first-item.result c.in-len1-up.len_at_least c.first-item.is), tt)

pub have_else-have_else-requires : goal.have_else-have_else-requires
have_else-have_else-requires t c =
    (omega (arith, c.requires, rest_weight c.args.statements.now c.in-len1-up.len_at_least), tt)
