use Rattle.std.proofs.Common.{take}
use Rattle.stm_watch.specs.Kept.{Covers}
use Rattle.stm_watch.specs.Pages.{IsAny, IsTouched, ReachesOver}
use Rattle.stm_watch.proofs.touch.touch_shelves.Given as goal

-- those on the shelves so far are touched
abbrev pub invariant-loop-shelf : goal.invariant-loop-shelf
invariant-loop-shelf l = record {
  touched : IsTouched l.revision l.key (λ i. IsAny (ReachesOver l.revision l.key i) (take l.shelf-index l.shelves)) l.fn.slots l.slots;
  covers : Covers l.index l.slots;
}
