use Rattle.std.proofs.Common.{take}
use Rattle.stm_watch.specs.Kept.{Covers}
use Rattle.stm_watch.specs.Pages.{IsAny, IsTouched, ReachesOn}
use Rattle.stm_watch.proofs.touch.touch_pages.Given as goal

-- those on the pages so far are touched
abbrev pub invariant-loop-page : goal.invariant-loop-page
invariant-loop-page l = record {
  touched : IsTouched l.revision l.key (λ i. IsAny (ReachesOn l.revision l.key i) (take l.page-index l.pages)) l.fn.slots l.slots;
  covers : Covers l.index l.slots;
}
