use Rattle.std.proofs.Common.{List, Option, take}
use Rattle.stm_watch.specs.declared.page.RangeEntry.{RangeEntry}
use Rattle.stm_watch.specs.declared.watched.Watcher.{Watcher}
use Rattle.stm_watch.specs.Pages.{HasEntry, IsMet}
use Rattle.stm_watch.proofs.page.Reach.of_pages.Given as goal

-- the entries on the pages so far are met
abbrev pub invariant-loop-page : goal.invariant-loop-page
invariant-loop-page l = (ws : List (Option Watcher)) (e : RangeEntry) → HasEntry ws (take l.page-index l.pages) e → IsMet ws e l.reach
