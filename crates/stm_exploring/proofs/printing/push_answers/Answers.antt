use Rattle.std.proofs.Common.{arith}
use Rattle.stm_exploring.specs.Judging.{answer_text}
use Rattle.stm_exploring.proofs.LineLemmas.{joined_item}
use Rattle.stm_exploring.proofs.printing.push_answers.Goals as goal

pub loop-a-preserved : goal.loop-a-preserved
loop-a-preserved c =
    joined_item answer_text c.args.answers.now c.loop-a.a-index c.a-item.result _ _ _ (omega (arith, c.loop-a-test.true)) c.a-item.is c.loop-a.invariant
    c.in_ok-push_answer.ensures
