use Rattle.std.proofs.Common.{◌≡◌, ◌⊎◌, List, Option, take, drop, vec_len}
use Rattle.stm_watch.specs.declared.page.RangeEntry.{RangeEntry}
use Rattle.stm_watch.specs.declared.watched.Watcher.{Watcher}
use Rattle.stm_watch.specs.Pages.{HasEntry}
use Rattle.stm_watch.proofs.shelf.Shelf.wake_each.Given as goal

-- an entry is on one of the pages so far, which is looked at, or on one of the rest
abbrev pub invariant-loop-index : goal.invariant-loop-index
invariant-loop-index l = record {
  woken : (old new : List (Option Watcher)) (e : RangeEntry) → HasEntry old l.fn.self.pages.items e
      → HasEntry new (take l.index l.self.pages.items) e ⊎ HasEntry old (drop l.index l.self.pages.items) e;
  len : vec_len l.self.pages ≡ vec_len l.fn.self.pages;
}
