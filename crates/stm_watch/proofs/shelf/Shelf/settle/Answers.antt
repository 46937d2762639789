use Rattle.std.proofs.Common.{subst, sym}
use Rattle.stm_watch.specs.declared.page.Reach.{Reach}
use Rattle.stm_watch.specs.Pages.{IsMet, StandsOn}
use Rattle.stm_watch.proofs.Entered.{any-set}
use Rattle.stm_watch.proofs.shelf.Shelf.settle.Goals as goal

pub loop-at-preserved : goal.loop-at-preserved
loop-at-preserved c = record {
  kept = λ e has.
      any-set (StandsOn c.args.slots.now e) c.loop-at.self.pages.items c.loop-at.at c.settle.new.self c.index_mut.result.now
      (λ stands. c.settle.ensures e (subst (StandsOn c.args.slots.now e) (sym c.index_mut.ensures.value) stands)) (c.loop-at.invariant.kept e has);
  len = c.loop-at.invariant.len;
  reach = c.loop-at.invariant.reach;
}

pub returns : goal.returns
returns c e had =
    c.sum_up.ensures c.args.slots.now e (record {
      met = subst (λ (reach : Reach). IsMet c.args.slots.now e reach) (sym c.loop-at.invariant.reach) had.met;
      there = c.loop-at.invariant.kept e had.there;
    })
