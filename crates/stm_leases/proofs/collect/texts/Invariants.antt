use Rattle.std.proofs.Common.{◌-◌, length}
use Rattle.stm_lists.specs.Lists.{entries_at}
use Rattle.stm_leases.proofs.Walk.{IsWalked}
use Rattle.stm_leases.proofs.collect.texts.Given as goal

abbrev pub invariant-loop-next : goal.invariant-loop-next
invariant-loop-next l = IsWalked l.lists l.fn.list l.texts.items l.next

abbrev pub decreases-loop-next : goal.decreases-loop-next
decreases-loop-next l = length (entries_at l.lists l.fn.list) - length l.texts.items
