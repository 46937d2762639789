use Rattle.std.proofs.Common.{sym, subst}
use Rattle.stm_schedules.specs.Places.{Place}
use Rattle.stm_explore.specs.declared.orders.Explained.{Explained}
use Rattle.stm_explore.specs.Orders.{IsExplained}
use Rattle.stm_explore.proofs.OrderLemmas.{is_explained}
use Rattle.stm_explore.proofs.orders.explain.Goals as goal

pub returns-clause-explained : goal.returns-clause-explained
returns-clause-explained g c =
    let p : Place = record { world = c.args.world.now; others = c.args.others.now } in
    subst (λ (e : Explained). IsExplained c.args.outcome.now p c.args.ends.now e) (sym c.explained_by.ensures.explained)
    (is_explained c.args.outcome.now p c.args.ends.now c.in_ok-visited.visited c.in_ok-visited.ensures.sought)
