use Rattle.std.proofs.Common.{arith}
use Rattle.stm_alike.specs.Levelled.{undated}
use Rattle.stm_alike.proofs.Comparing.{one_more}
use Rattle.stm_alike.proofs.answers.find_the_same.Goals as goal

pub loop-i-preserved : goal.loop-i-preserved
loop-i-preserved c =
    one_more undated c.args.left.now c.args.right.now c.loop-i.i c.index-left-i.result c.index-right-i.result (omega arith) (omega arith)
    c.index-left-i.is c.index-right-i.is (c.finds_the_same.ensures c.if-not-finds_the_same.false) c.loop-i.invariant
