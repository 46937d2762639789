use Rattle.std.proofs.Common.{arith}
use Rattle.stm_program.proofs.LimitLemmas.{expression_needs}
use Rattle.stm_program.proofs.limits.+expression_left.Goals as goal

pub returns-then-levels-eq0 : goal.returns-then-levels-eq0
returns-then-levels-eq0 t c = λ fits. let needs = expression_needs _ _ _ fits in absurd (omega arith)

pub returns-then-room-eq0 : goal.returns-then-room-eq0
returns-then-room-eq0 t c = λ fits. let needs = expression_needs _ _ _ fits in absurd (omega arith)
