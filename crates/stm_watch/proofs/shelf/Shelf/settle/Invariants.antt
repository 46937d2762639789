use Rattle.std.proofs.Common.{◌≡◌, vec_len}
use Rattle.stm_watch.specs.declared.page.RangeEntry.{RangeEntry}
use Rattle.stm_watch.specs.Pages.{HasEntry}
use Rattle.stm_watch.proofs.shelf.Shelf.settle.Given as goal

-- no entry is lost
abbrev pub invariant-loop-at : goal.invariant-loop-at
invariant-loop-at l = record {
  kept : (e : RangeEntry) → HasEntry l.slots l.fn.self.pages.items e → HasEntry l.slots l.self.pages.items e;
  len : vec_len l.self.pages ≡ vec_len l.fn.self.pages;
  reach : l.self.reach ≡ l.fn.self.reach;
}
