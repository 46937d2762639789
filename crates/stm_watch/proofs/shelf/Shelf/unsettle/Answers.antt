use Rattle.std.proofs.Common.{refl, subst, sym}
use Rattle.stm_watch.specs.Pages.{StandsOn}
use Rattle.stm_watch.proofs.Entered.{any-set, unsettled_shelf}
use Rattle.stm_watch.proofs.shelf.Shelf.unsettle.Goals as goal

pub loop-at-preserved : goal.loop-at-preserved
loop-at-preserved c = record {
  kept = λ ws e has.
      any-set (StandsOn ws e) c.loop-at.self.pages.items c.loop-at.at c.unsettle.new.self c.index_mut.result.now
      (λ stands. c.unsettle.ensures ws e (subst (StandsOn ws e) (sym c.index_mut.ensures.value) stands)) (c.loop-at.invariant.kept ws e has);
  len = c.loop-at.invariant.len;
}

pub returns : goal.returns
returns c ws e had = unsettled_shelf ws e _ refl (c.loop-at.invariant.kept ws e had.there)
