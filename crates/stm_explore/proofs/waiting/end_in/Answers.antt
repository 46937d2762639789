use Rattle.std.proofs.Common.{arith}
use Rattle.stm_explore.proofs.AskedLemmas.{ends_next, place_next}
use Rattle.stm_explore.proofs.waiting.end_in.Goals as goal

pub loop-chosen-preserved : goal.loop-chosen-preserved
loop-chosen-preserved c =
    let others = c.args.waiting.now.gathered.others.now in (
      place_next others c.args.moves.now c.loop-chosen.chosen-index _ c.loop-chosen.place c.in_ok-next.next _ (omega (arith, c.loop-chosen-test.true))
          (c.in_ok-next.ensures 0) c.loop-chosen.invariant.0,
      ends_next others c.args.moves.now c.loop-chosen.chosen-index _ c.loop-chosen.place c.in_ok-next.next _ (omega (arith, c.loop-chosen-test.true))
          (c.in_ok-next.ensures 0) c.loop-chosen.invariant.1,
    )
