use Rattle.std.proofs.Common.{◌≡◌, ◌+◌, length, arith}
use Rattle.stm_check.specs.Points.{point_of}
use Rattle.stm_check.proofs.Walking.{fewer, joined_result}
use Rattle.stm_check.proofs.checking.judge.Goals as goal

pub lines_after-requires : goal.lines_after-requires
lines_after-requires c = fewer 1 (point_of c.args.point.now) c.args.events.now c.args.lines.now (c.in_ok-wrong.ensures.right c.in-None.is)

pub returns-in-None : goal.returns-in-None
returns-in-None c =
    let next : length c.args.events.now + 1 ≡ 1 + length c.args.events.now = omega arith in
    joined_result c.first_wrong_final.result 1 (point_of c.args.point.now) c.args.events.now c.args.lines.now c.lines_after.result.now
    (point_of c.first_wrong_event.new.point) (length c.args.events.now + 1) (c.in_ok-wrong.ensures.right c.in-None.is)
    (c.in_ok-wrong.ensures.point c.in-None.is) c.lines_after.ensures next c.first_wrong_final.ensures
