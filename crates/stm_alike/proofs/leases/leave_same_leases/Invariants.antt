use Rattle.std.proofs.Common.{◌≡◌, ◌≤◌, ◌++◌, length, take, drop}
use Rattle.stm_alike.specs.Leases.{leases_of}
use Rattle.stm_alike.proofs.leases.leave_same_leases.Given as goal

abbrev pub invariant-loop-entry : goal.invariant-loop-entry
invariant-loop-entry l = record {
  within : l.next ≤ length l.right;
  so_far : leases_of (take l.entry-index l.left) ++ leases_of (drop l.next l.right) ≡ leases_of l.right;
}
