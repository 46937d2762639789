use Rattle.std.proofs.Common.{◌∙◌, sym, subst, List, Option}
use Rattle.stm_watch.specs.declared.watched.Watcher.{Watcher}
use Rattle.stm_watch.specs.Pages.{AreFound}
use Rattle.stm_watch.proofs.Entered.{entered_kept}
use Rattle.stm_watch.proofs.table.Table.copy.Goals as goal

pub invariant_of-result : goal.invariant_of-result
invariant_of-result c =
    subst (λ (ws : List (Option Watcher)). AreFound c.in_ok-index.index c.in_ok-groups.groups ws) (sym c.in_ok-slots.ensures)
    (record {
      covers = c.in_ok-index.ensures c.self.inside.slots c.self.invariant.covers;
      entered = entered_kept c.self.inside.groups c.in_ok-groups.groups c.self.inside.slots c.in_ok-groups.ensures c.self.invariant.entered;
    })

pub returns : goal.returns
returns c = c.in_ok-slots.ensures ∙ c.self.view_is
