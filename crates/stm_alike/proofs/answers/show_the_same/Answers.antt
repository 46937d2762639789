use Rattle.std.proofs.Common.{arith}
use Rattle.stm_alike.specs.Levelled.{carrying}
use Rattle.stm_alike.proofs.Comparing.{one_more}
use Rattle.stm_alike.proofs.answers.show_the_same.Goals as goal

pub loop-i-preserved : goal.loop-i-preserved
loop-i-preserved c = λ n.
    one_more (carrying n) c.args.left.now c.args.right.now c.loop-i.i c.index-left-i.result c.index-right-i.result (omega arith) (omega arith)
    c.index-left-i.is c.index-right-i.is (c.shows_the_same.ensures c.if-not-shows_the_same.false n) (c.loop-i.invariant n)
