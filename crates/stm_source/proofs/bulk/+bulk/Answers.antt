use Rattle.std.proofs.Common.{arith}
use Rattle.stm_program.proofs.WeightLemmas.{first_weight, rest_weight}
use Rattle.stm_source.proofs.bulk.+bulk.Goals as goal

pub statements_room-statement_room-room-requires : goal.statements_room-statement_room-room-requires
statements_room-statement_room-room-requires t c =
    (omega (arith, c.decreases, first_weight c.args.statements.now c.first-item.result c.in-len1-up.len_at_least c.first-item.is), tt)

pub statements_room-statements_room-requires : goal.statements_room-statements_room-requires
statements_room-statements_room-requires t c =
    (omega (arith, c.decreases, rest_weight c.args.statements.now c.in-len1-up.len_at_least), tt)
