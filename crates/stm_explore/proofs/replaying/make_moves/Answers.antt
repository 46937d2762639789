use Rattle.std.proofs.Common.{arith}
use Rattle.stm_explore.proofs.Replays.{all_left, next_left, none_left}
use Rattle.stm_explore.proofs.replaying.make_moves.Goals as goal

pub loop-chosen-init : goal.loop-chosen-init
loop-chosen-init c = all_left c.args.gathered.now.others.now c.args.moves.now c.args.start

pub loop-chosen-preserved : goal.loop-chosen-preserved
loop-chosen-preserved c =
    next_left c.args.gathered.now.others.now c.args.moves.now c.loop-chosen.chosen-index _ c.loop-chosen.place c.in_ok-next.next _ (omega arith)
    (c.in_ok-next.ensures 0) c.loop-chosen.invariant

pub returns : goal.returns
returns c = none_left c.args.gathered.now.others.now c.args.moves.now c.loop-chosen.chosen-index c.loop-chosen.place _ (omega arith) c.loop-chosen.invariant
