use Rattle.std.proofs.Common.{◌≡◌, ◌≤◌, ℕ, List, length}
use Rattle.std.specs.Vec.Iter.{into_iter_items}
use Rattle.stm_leases.specs.Leases.{lease_of}
use Rattle.stm_txn.specs.Moves.{attached_all, CanAttach}
use Rattle.stm_txn.proofs.attach.attach_all.Given as goal

abbrev pub invariant-loop-attach : goal.invariant-loop-attach
invariant-loop-attach l = record {
  can_next : (goal.iterator-loop-attach).can_next l.attach-iterator;
  ends : (goal.iterator-loop-attach).is_finite l.attach-iterator;
  can : CanAttach (lease_of l.leases) l.leases.live (into_iter_items l.attach-iterator);
  room : length (into_iter_items l.attach-iterator) ≤ l.leases.spare;
  reported : (key : List ℕ) → attached_all (into_iter_items l.attach-iterator) key (lease_of l.leases key)
      ≡ attached_all l.fn.attaches.items key (lease_of l.fn.leases key);
  live : l.leases.live ≡ l.fn.leases.live;
}
