use Rattle.std.proofs.Common.{◌<◌, length, arith}
use Rattle.stm_exploring.specs.Judging.{IsAnswer}
use Rattle.stm_serial_search.specs.Replaying.{IsJudged}
use Rattle.stm_exploring.proofs.AnswerLemmas.{zip_put_both}
use Rattle.stm_exploring.proofs.judging.improve_at.Goals as goal

pub returns-then-index-len-clause-each : goal.returns-then-index-len-clause-each
returns-then-index-len-clause-each c = λ rules p answers judged.
    let there : c.args.index < length c.args.judged.now.items = omega (arith, c.if-index-len.true, c.len.ensures, c.args.judged.now.ok.0) in
    zip_put_both (λ rule. IsAnswer rule p) (λ rule. IsJudged rule p) rules c.args.answers.now.items c.args.judged.now.items c.args.index c.index_mut.result.now
    c.improve.new.answer c.index_mut-then-index-len.result.now c.improve.new.judged c.requires there c.index_mut.ensures.value c.index_mut-then-index-len.ensures.value
    (λ rule. c.improve.ensures.answer rule p) (λ rule. c.improve.ensures.judged rule p) answers judged
