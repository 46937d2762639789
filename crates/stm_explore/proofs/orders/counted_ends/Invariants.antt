use Rattle.std.proofs.Common.{◌≡◌, ◌++◌, drop, filter}
use Rattle.stm_explore.specs.Turns.{counts}
use Rattle.stm_explore.proofs.orders.counted_ends.Given as goal

-- those that count so far, and of the ends that are left
abbrev pub invariant-loop-end : goal.invariant-loop-end
invariant-loop-end l = l.list.items ++ filter counts (drop l.end-index l.ends) ≡ filter counts l.ends
