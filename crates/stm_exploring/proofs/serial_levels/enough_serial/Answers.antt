use Rattle.std.proofs.Common.{◌∙◌, arith, sym}
use Rattle.stm_exploring.proofs.SerialLevelLemmas.{not_serial_yet}
use Rattle.stm_exploring.proofs.serial_levels.enough_serial.Goals as goal

pub loop-i-preserved : goal.loop-i-preserved
loop-i-preserved c =
    not_serial_yet c.args.at.now c.loop-i.i (omega (arith, c.loop-i-test.true)) (sym c.are_serial.ensures ∙ c.if-are_serial.false) ∙ c.loop-i.invariant
