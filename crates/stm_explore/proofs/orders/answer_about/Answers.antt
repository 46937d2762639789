use Rattle.std.proofs.Common.{List, subst}
use Rattle.stm_schedules.specs.declared.outcome.Outcome.{Outcome}
use Rattle.stm_schedules.specs.Places.{Place}
use Rattle.stm_world.specs.World.{World}
use Rattle.stm_explore.specs.Orders.{AreCompared}
use Rattle.stm_explore.proofs.OrderLemmas.{within_lists}
use Rattle.stm_explore.proofs.orders.answer_about.Goals as goal

pub answer_of-requires : goal.answer_of-requires
answer_of-requires g c =
    let p : Place = record { world = c.args.world.now; others = c.args.others.now } in
    within_lists p c.args.ends.now c.args.outcomes c.args.schedules c.in_ok-compared.compared c.requires.witnessed.0
    (subst (λ (w : World). AreCompared (record { world = w; others = c.args.others.now }) c.args.ends.now c.args.outcomes c.in_ok-compared.compared) c.in_ok-world.ensures
    (subst (λ (os : List Outcome). AreCompared (record { world = c.in_ok-world.world; others = c.args.others.now }) c.args.ends.now os c.in_ok-compared.compared)
    c.as_slice.ensures c.in_ok-compared.ensures.compared))

pub returns-clause-answer : goal.returns-clause-answer
returns-clause-answer g c =
    let p : Place = record { world = c.args.world.now; others = c.args.others.now } in
    c.answer_of.ensures.answers p c.args.ends.now c.requires.all c.requires.witnessed.0 c.requires.witnessed.1
    (subst (λ (w : World). AreCompared (record { world = w; others = c.args.others.now }) c.args.ends.now c.args.outcomes c.in_ok-compared.compared) c.in_ok-world.ensures
    (subst (λ (os : List Outcome). AreCompared (record { world = c.in_ok-world.world; others = c.args.others.now }) c.args.ends.now os c.in_ok-compared.compared)
    c.as_slice.ensures c.in_ok-compared.ensures.compared))

pub returns-clause-spent : goal.returns-clause-spent
returns-clause-spent g c = c.answer_of.ensures.spent c.compare.new.budget.left c.in_ok-compared.ensures.spent
