use Rattle.std.proofs.Common.{arith}
use Rattle.stm_compile.proofs.AnswerLemmas.{least_is_below}
use Rattle.stm_compile.proofs.read_set.least_carried.Goals as goal

pub returns-clause-below : goal.returns-clause-below
returns-clause-below c =
    least_is_below c.loop-answer.least c.args.first c.loop-answer.answer-index c.args.answers.now c.loop-answer.invariant
    (omega (arith, c.loop-answer-test.false))
