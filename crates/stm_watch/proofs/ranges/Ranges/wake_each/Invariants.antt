use Rattle.std.proofs.Common.{◌≡◌, ◌⊎◌, List, Option, take, drop, vec_len}
use Rattle.stm_watch.specs.declared.page.RangeEntry.{RangeEntry}
use Rattle.stm_watch.specs.declared.watched.Watcher.{Watcher}
use Rattle.stm_watch.specs.Pages.{IsAny, IsIn, IsShelved}
use Rattle.stm_watch.proofs.ranges.Ranges.wake_each.Given as goal

-- an entry is on one of the shelves so far, which is looked at, or on one of the rest
abbrev pub invariant-loop-index : goal.invariant-loop-index
invariant-loop-index l = record {
  woken : (old new : List (Option Watcher)) (e : RangeEntry) → IsIn old e l.fn.self
      → IsAny (IsShelved new e) (take l.index l.self.shelves.items) ⊎ IsAny (IsShelved old e) (drop l.index l.self.shelves.items);
  len : vec_len l.self.shelves ≡ vec_len l.fn.self.shelves;
}
