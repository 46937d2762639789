use Rattle.std.proofs.Common.{arith}
use Rattle.stm_exploring.specs.SerialLevels.{serial_level_text}
use Rattle.stm_exploring.proofs.LineLemmas.{joined_item}
use Rattle.stm_exploring.proofs.serial_levels.push_serial_levels.Goals as goal

pub loop-a-preserved : goal.loop-a-preserved
loop-a-preserved c =
    joined_item serial_level_text c.args.at.now c.loop-a.a-index c.a-item.result _ _ _ (omega (arith, c.loop-a-test.true)) c.a-item.is c.loop-a.invariant
    c.in_ok-push_serial_level.ensures
