use Rattle.std.proofs.Common.{arith}
use Rattle.stm_exploring.specs.Levels.{level_line_text}
use Rattle.stm_exploring.proofs.LineLemmas.{joined_item}
use Rattle.stm_exploring.proofs.level_lines.push_rules.Goals as goal

pub loop-a-preserved : goal.loop-a-preserved
loop-a-preserved c =
    joined_item (level_line_text c.args.level) c.args.answers.now c.loop-a.a-index c.a-item.result _ _ _ (omega (arith, c.loop-a-test.true)) c.a-item.is c.loop-a.invariant
    c.in_ok-push_at_level.ensures
