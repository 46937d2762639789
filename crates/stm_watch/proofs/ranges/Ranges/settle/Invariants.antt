use Rattle.std.proofs.Common.{◌≡◌, vec_len}
use Rattle.stm_watch.specs.declared.page.RangeEntry.{RangeEntry}
use Rattle.stm_watch.specs.Pages.{IsIn}
use Rattle.stm_watch.proofs.ranges.Ranges.settle.Given as goal

-- no entry is lost
abbrev pub invariant-loop-at : goal.invariant-loop-at
invariant-loop-at l = record {
  kept : (e : RangeEntry) → IsIn l.slots e l.fn.self → IsIn l.slots e l.self;
  len : vec_len l.self.shelves ≡ vec_len l.fn.self.shelves;
}
