use Rattle.std.proofs.Common.{◌<◌, length, arith}
use Rattle.stm_check.specs.Points.{point_of}
use Rattle.stm_check.proofs.Walking.{walked_more}
use Rattle.stm_check.proofs.checking.first_wrong_event.Goals as goal

pub loop-index-preserved : goal.loop-index-preserved
loop-index-preserved c =
    let i = c.loop-index.index in
    let within : i < length c.args.lines.now = omega (arith, c.if-index-lines.false) in (
      walked_more (point_of c.args.point.now) c.args.events.now c.args.lines.now i (point_of c.loop-index.point) (point_of c.take.new.self)
          c.index-events-index.result c.index-lines-index.result c.loop-index-test.true c.index-events-index.is within c.index-lines-index.is
          c.loop-index.invariant.0 (c.in_ok-cause.ensures.right c.in_default.is) (c.in_ok-cause.ensures.next c.in_default.is),
      c.in_ok-cause.ensures.leases c.in_default.is c.loop-index.invariant.1,
      omega (arith, within),
    )
