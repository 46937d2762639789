use Rattle.std.proofs.Common.{◌∙◌, arith}
use Rattle.stm_exploring.proofs.judging.improve_each.Goals as goal

pub improve_at-requires : goal.improve_at-requires
improve_at-requires c = omega (arith, c.loop-index-test.true, c.len-index-end.ensures, c.loop-index.invariant.sized, c.args.answers.now.ok.0)

pub loop-index-preserved : goal.loop-index-preserved
loop-index-preserved c = record {
  sized = c.improve_at.ensures.sized ∙ c.loop-index.invariant.sized;
  each = λ rules p answers judged.
      let so_far = c.loop-index.invariant.each rules p answers judged in c.improve_at.ensures.each rules p so_far.0 so_far.1;
}

pub returns : goal.returns
returns c = λ rules p answers judged. (c.loop-index.invariant.each rules p answers judged).0
