use Rattle.std.proofs.Common.{All, arith, subst}
use Rattle.std.proofs.lemmas.List.{take_all}
use Rattle.stm_schedules.specs.Places.{Place}
use Rattle.stm_explore.specs.declared.orders.Explained.{Explained}
use Rattle.stm_explore.specs.Orders.{IsExplained}
use Rattle.stm_explore.specs.Turns.{IsSerial}
use Rattle.stm_explore.proofs.OrderLemmas.{all_more}
use Rattle.stm_explore.proofs.orders.compare.Goals as goal

pub loop-i-preserved : goal.loop-i-preserved
loop-i-preserved g c =
    let p : Place = record { world = c.args.world.now; others = c.args.others.now } in record {
      serial = all_more (IsSerial p c.args.ends.now) c.args.outcomes.now c.loop-i.i c.index-outcomes-i.result (omega (arith, c.loop-i-test.true)) c.index-outcomes-i.is
          (subst (λ (e : Explained). IsExplained c.index-outcomes-i.result p c.args.ends.now e) c.in-Yes.is c.in_ok-explained.ensures.explained) c.loop-i.invariant.serial;
      left = omega (arith, c.loop-i.invariant.left, c.in_ok-explained.ensures.left);
    }

pub returns-clause-compared : goal.returns-clause-compared
returns-clause-compared g c =
    let p : Place = record { world = c.args.world.now; others = c.args.others.now } in
    subst (All (IsSerial p c.args.ends.now)) (take_all c.loop-i.i c.args.outcomes.now (omega (arith, c.loop-i-test.false))) c.loop-i.invariant.serial
