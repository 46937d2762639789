use Rattle.std.proofs.Common.{take}
use Rattle.stm_watch.specs.declared.page.RangeEntry.{RangeEntry}
use Rattle.stm_watch.specs.Pages.{IsOneOf, IsMet}
use Rattle.stm_watch.proofs.page.Reach.of_all.Given as goal

-- the entries so far are met
abbrev pub invariant-loop-entry : goal.invariant-loop-entry
invariant-loop-entry l = (e : RangeEntry) → IsOneOf e (take l.entry-index l.entries) → IsMet l.slots e l.reach
