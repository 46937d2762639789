use Rattle.std.proofs.Common.{arith}
use Rattle.stm_program.proofs.LimitLemmas.{statement_needs}
use Rattle.stm_program.proofs.WeightLemmas.{first_weight, rest_weight}
use Rattle.stm_program.proofs.limits.+left.Goals as goal

pub statement_left-returns-then-levels-eq0 : goal.statement_left-returns-then-levels-eq0
statement_left-returns-then-levels-eq0 t c = λ fits. let needs = statement_needs _ _ _ fits in absurd (omega arith)

pub statement_left-returns-then-room-eq0 : goal.statement_left-returns-then-room-eq0
statement_left-returns-then-room-eq0 t c = λ fits. let needs = statement_needs _ _ _ fits in absurd (omega arith)

pub statements_left-statement_left-requires : goal.statements_left-statement_left-requires
statements_left-statement_left-requires t c =
    (omega (arith, c.decreases, first_weight c.args.statements.now c.first-item.result c.in-len1-up.len_at_least c.first-item.is), tt)

pub statements_left-statements_left-requires : goal.statements_left-statements_left-requires
statements_left-statements_left-requires t c =
    (omega (arith, c.decreases, rest_weight c.args.statements.now c.in-len1-up.len_at_least), tt)
