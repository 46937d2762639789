use Rattle.std.proofs.Common.{arith}
use Rattle.stm_program.proofs.WeightLemmas.{first_weight, rest_weight}
use Rattle.stm_exploring.proofs.run_texts.+statements.Goals as goal

pub add_statements-add_statement-requires : goal.add_statements-add_statement-requires
add_statements-add_statement-requires t c =
    (omega (arith, c.decreases, first_weight c.args.statements.now c.first-item.result c.in-len1-up.len_at_least c.first-item.is), tt)

pub add_statements-add_statements-requires : goal.add_statements-add_statements-requires
add_statements-add_statements-requires t c =
    (omega (arith, c.decreases, rest_weight c.args.statements.now c.in-len1-up.len_at_least), tt)
