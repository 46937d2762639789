use Rattle.std.proofs.Common.{◌<◌, arith}
use Rattle.stm_program_json.proofs.ReadLemmas.{expression_at-deep, expression_at-full, expression_at-step}
use Rattle.stm_program_json.proofs.read.expressions.+read_expressions.Goals as goal

pub expression-returns-then-levels-eq0 : goal.expression-returns-then-levels-eq0
expression-returns-then-levels-eq0 t c = expression_at-deep _ _ _ _ c.if-levels-eq0.true c.fault.ensures

pub expression-returns-then-room-eq0 : goal.expression-returns-then-room-eq0
expression-returns-then-room-eq0 t c = expression_at-full _ _ _ _ (omega arith) c.if-room-eq0.true c.fault-then-room-eq0.ensures

pub expression-returns : goal.expression-returns
expression-returns t c =
    let levels : 0 < c.args.levels = omega arith in
    let room : 0 < c.args.room = omega arith in
    rw expression_at-step c.expression_body.ensures
