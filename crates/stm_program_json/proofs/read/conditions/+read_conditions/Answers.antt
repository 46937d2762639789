use Rattle.std.proofs.Common.{◌<◌, arith}
use Rattle.stm_program_json.proofs.ReadLemmas.{condition_at-deep, condition_at-full, condition_at-step}
use Rattle.stm_program_json.proofs.read.conditions.+read_conditions.Goals as goal

pub condition-returns-then-levels-eq0 : goal.condition-returns-then-levels-eq0
condition-returns-then-levels-eq0 t c = condition_at-deep _ _ _ _ c.if-levels-eq0.true c.fault.ensures

pub condition-returns-then-room-eq0 : goal.condition-returns-then-room-eq0
condition-returns-then-room-eq0 t c = condition_at-full _ _ _ _ (omega arith) c.if-room-eq0.true c.fault-then-room-eq0.ensures

pub condition-returns : goal.condition-returns
condition-returns t c =
    let levels : 0 < c.args.levels = omega arith in
    let room : 0 < c.args.room = omega arith in
    rw condition_at-step c.condition_array.ensures
