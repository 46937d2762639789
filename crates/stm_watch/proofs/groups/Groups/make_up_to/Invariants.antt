use Rattle.std.proofs.Common.{◌≡◌, ◌-◌, ◌+◌, ℕ, List, Option, vec_len}
use Rattle.stm_watch.specs.declared.page.RangeEntry.{RangeEntry}
use Rattle.stm_watch.specs.declared.watched.Watcher.{Watcher}
use Rattle.stm_watch.specs.Pages.{HasIn}
use Rattle.stm_watch.proofs.groups.Groups.make_up_to.Given as goal

-- no entry is lost
abbrev pub invariant-groups : goal.invariant-groups
invariant-groups l = record {
  keys : l.self.keys ≡ l.fn.self.keys;
  kept : (ws : List (Option Watcher)) (g : ℕ) (e : RangeEntry) → HasIn ws l.fn.self.groups.items g e → HasIn ws l.self.groups.items g e;
}

abbrev pub decreases-groups : goal.decreases-groups
decreases-groups l = l.group + 1 - vec_len l.self.groups
