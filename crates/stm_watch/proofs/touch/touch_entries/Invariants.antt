use Rattle.std.proofs.Common.{take}
use Rattle.stm_watch.specs.Kept.{Covers}
use Rattle.stm_watch.specs.Pages.{IsAny, IsTouched, Reaches}
use Rattle.stm_watch.proofs.touch.touch_entries.Given as goal

-- those of the entries so far are touched
abbrev pub invariant-loop-entry : goal.invariant-loop-entry
invariant-loop-entry l = record {
  touched : IsTouched l.revision l.key (λ i. IsAny (Reaches l.key i) (take l.entry-index l.entries)) l.fn.slots l.slots;
  covers : Covers l.index l.slots;
}
