use Rattle.std.proofs.Common.{◌∙◌, arith, sym}
use Rattle.stm_exploring.proofs.LevelLemmas.{not_enough}
use Rattle.stm_exploring.proofs.level_lines.enough.Goals as goal

pub loop-i-preserved : goal.loop-i-preserved
loop-i-preserved c =
    not_enough c.args.at.now c.loop-i.i (omega (arith, c.loop-i-test.true)) (sym c.are_enough.ensures ∙ c.if-are_enough.false) ∙ c.loop-i.invariant
