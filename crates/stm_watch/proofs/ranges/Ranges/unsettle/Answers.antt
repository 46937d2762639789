use Rattle.std.proofs.Common.{subst, sym}
use Rattle.stm_watch.specs.Pages.{IsShelved}
use Rattle.stm_watch.proofs.Entered.{any-set}
use Rattle.stm_watch.proofs.ranges.Ranges.unsettle.Goals as goal

pub loop-at-preserved : goal.loop-at-preserved
loop-at-preserved c = record {
  kept = λ ws e had.
      any-set (IsShelved ws e) c.loop-at.self.shelves.items c.loop-at.at c.unsettle.new.self c.index_mut.result.now
      (λ stands. c.unsettle.ensures ws e (subst (IsShelved ws e) (sym c.index_mut.ensures.value) stands)) (c.loop-at.invariant.kept ws e had);
  len = c.loop-at.invariant.len;
}
