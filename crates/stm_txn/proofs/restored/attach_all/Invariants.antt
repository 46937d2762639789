use Rattle.std.proofs.Common.{◌≡◌, List, ℕ, take, drop}
use Rattle.std.specs.Ordering.{nat_cmp}
use Rattle.std.specs.Cmp.Lexicographic.{slice_cmp}
use Rattle.std.specs.FinMap.{find}
use Rattle.stm_leases.specs.Leases.{lease_of}
use Rattle.stm_txn.specs.Leasing.{attaching}
use Rattle.stm_txn.specs.Restored.{are_attached_in}
use Rattle.stm_txn.proofs.restored.attach_all.Given as goal

-- the keys of the states so far are attached, and what is left decides
abbrev pub invariant-loop-entry : goal.invariant-loop-entry
invariant-loop-entry l = record {
  same : are_attached_in l.fn.leases.live l.states ≡ are_attached_in l.fn.leases.live (drop l.entry-index l.states);
  attached : (key : List ℕ) → lease_of l.leases key ≡ attaching (find (slice_cmp nat_cmp) key (take l.entry-index l.states));
  live : l.leases.live ≡ l.fn.leases.live;
}
