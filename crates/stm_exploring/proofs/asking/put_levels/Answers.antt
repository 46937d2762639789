use Rattle.std.proofs.Common.{arith}
use Rattle.stm_schedules.specs.Scenarios.{at_level}
use Rattle.stm_serial_search.proofs.Judges.{put_next}
use Rattle.stm_exploring.proofs.asking.put_levels.Goals as goal

pub loop-i-preserved : goal.loop-i-preserved
loop-i-preserved c =
    put_next (at_level c.args.level) c.args.events.now.items c.loop-i.events.items c.loop-i.i c.index_mut.result.now c.put_level.new.event
    (omega (arith, c.loop-i-test.true, c.len-i-end.ensures)) c.loop-i.invariant c.index_mut.ensures.value c.put_level.ensures
