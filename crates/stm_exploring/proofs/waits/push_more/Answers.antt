use Rattle.std.proofs.Common.{arith}
use Rattle.stm_exploring.specs.Waits.{next_wait_text}
use Rattle.stm_exploring.proofs.LineLemmas.{joined_next}
use Rattle.stm_exploring.proofs.waits.push_more.Goals as goal

pub loop-wait-preserved : goal.loop-wait-preserved
loop-wait-preserved c =
    joined_next next_wait_text c.args.waits.now c.loop-wait.wait-index _ _ _ _ (omega (arith, c.loop-wait-test.true)) c.loop-wait.invariant
    c.in_ok-push_next.ensures
