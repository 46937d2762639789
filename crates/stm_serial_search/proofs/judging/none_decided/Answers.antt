use Rattle.std.proofs.Common.{◌+◌, take, sym, subst, arith}
use Rattle.std.specs.List.{AllZip}
use Rattle.stm_serial_search.specs.Replaying.{IsJudged}
use Rattle.stm_serial_search.proofs.Judges.{any_more}
use Rattle.stm_serial_search.proofs.judging.none_decided.Goals as goal

pub loop-index-preserved : goal.loop-index-preserved
loop-index-preserved c = λ p.
    subst (AllZip (λ rule. IsJudged rule p) (take (c.loop-index.index + 1) c.args.rules.now)) (sym c.in_ok-push.ensures.items)
    (any_more (λ rule. IsJudged rule p) c.args.rules.now c.loop-index.judged.items c.loop-index.index c.before_orders.result (omega (arith, c.loop-index-test.true))
    (λ rule. c.before_orders.ensures rule p) (c.loop-index.invariant p))
