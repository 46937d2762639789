use Rattle.std.proofs.Common.{arith}
use Rattle.stm_exploring.specs.Levels.{level_text_of}
use Rattle.stm_exploring.proofs.LineLemmas.{joined_item}
use Rattle.stm_exploring.proofs.level_lines.push_levels.Goals as goal

pub loop-a-preserved : goal.loop-a-preserved
loop-a-preserved c =
    joined_item level_text_of c.args.at.now c.loop-a.a-index c.a-item.result _ _ _ (omega (arith, c.loop-a-test.true)) c.a-item.is c.loop-a.invariant
    c.in_ok-push_level.ensures
