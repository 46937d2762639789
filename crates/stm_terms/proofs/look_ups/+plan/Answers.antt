use Rattle.std.proofs.Common.{◌<◌, arith}
use Rattle.stm_terms.proofs.PlanLemmas.{planned_none, planned_some}
use Rattle.stm_terms.proofs.look_ups.+plan.Goals as goal

pub plan-returns-then-most-eq0 : goal.plan-returns-then-most-eq0
plan-returns-then-most-eq0 t c = planned_none _ _ _ _ c.if-most-eq0.true

pub plan-returns : goal.plan-returns
plan-returns t c =
    let some : 0 < c.args.most = omega arith in
    rw (planned_some c.args.most c.args.planned.now c.args.variable c.args.look_ups.now some) c.plan_some.ensures
