use Rattle.std.proofs.Common.{subst, sym}
use Rattle.stm_watch.specs.Pages.{IsShelved}
use Rattle.stm_watch.proofs.Entered.{any-set}
use Rattle.stm_watch.proofs.ranges.Ranges.settle.Goals as goal

pub loop-at-preserved : goal.loop-at-preserved
loop-at-preserved c = record {
  kept = λ e had.
      any-set (IsShelved c.args.slots.now e) c.loop-at.self.shelves.items c.loop-at.at c.settle.new.self c.index_mut.result.now
      (λ stands. c.settle.ensures e (subst (IsShelved c.args.slots.now e) (sym c.index_mut.ensures.value) stands)) (c.loop-at.invariant.kept e had);
  len = c.loop-at.invariant.len;
}
