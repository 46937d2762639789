use Rattle.std.proofs.Common.{◌≤◌, All, take}
use Rattle.stm_explore.specs.Turns.{IsSerial}
use Rattle.stm_explore.proofs.orders.compare.Given as goal

-- some serial order comes to each so far, and no move was given back
abbrev pub invariant-loop-i : goal.invariant-loop-i
invariant-loop-i g l = record {
  serial : All (IsSerial (record { world = l.world; others = l.others }) l.ends) (take l.i l.outcomes);
  left : l.budget.left ≤ l.fn.budget.left;
}
