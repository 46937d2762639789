use Rattle.std.proofs.Common.{List, Option, subst}
use Rattle.stm_watch.specs.declared.watched.Watcher.{Watcher}
use Rattle.stm_watch.specs.Calls.{IsNextReady}
use Rattle.stm_watch.proofs.table.Table.next_ready.Goals as goal

pub next_ready-requires : goal.next_ready-requires
next_ready-requires c = (c.self.inside.slots, c.self.invariant.covers)

pub returns : goal.returns
returns c =
    subst (λ (ws : List (Option Watcher)). IsNextReady ws c.next_ready.result) c.self.view_is
    (c.next_ready.ensures c.self.inside.slots c.self.invariant.covers)
