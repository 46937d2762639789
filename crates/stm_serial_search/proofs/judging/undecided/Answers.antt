use Rattle.std.proofs.Common.{arith}
use Rattle.stm_serial_search.proofs.Judges.{one_told, all_told}
use Rattle.stm_serial_search.proofs.judging.undecided.Goals as goal

pub loop-index-preserved : goal.loop-index-preserved
loop-index-preserved c =
    one_told c.args.rules.now c.args.judged.now c.loop-index.index c.index-rules-index.result c.index-judged-index.result c.loop-index.left.items c.push_undecided.new.left.items
    (omega (arith, c.loop-index-test.true)) (omega (arith, c.loop-index-test.true, c.requires)) c.index-rules-index.is c.index-judged-index.is
    c.in_ok-push_undecided.ensures c.loop-index.invariant

pub returns : goal.returns
returns c =
    all_told c.args.rules.now c.args.judged.now c.loop-index.index c.loop-index.left.items (omega (arith, c.loop-index-test.false)) c.loop-index.invariant
