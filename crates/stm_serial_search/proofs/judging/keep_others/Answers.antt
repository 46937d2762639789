use Rattle.std.proofs.Common.{arith}
use Rattle.stm_serial_search.specs.Replaying.{or_always}
use Rattle.stm_serial_search.proofs.Judges.{put_next}
use Rattle.stm_serial_search.proofs.judging.keep_others.Goals as goal

pub loop-i-preserved : goal.loop-i-preserved
loop-i-preserved c =
    put_next or_always c.args.judged.now.items c.loop-i.judged.items c.loop-i.i c.index_mut.result.now c.or_always.new.judged
    (omega (arith, c.loop-i-test.true, c.len-i-end.ensures, c.args.judged.now.ok.0)) c.loop-i.invariant c.index_mut.ensures.value c.or_always.ensures
