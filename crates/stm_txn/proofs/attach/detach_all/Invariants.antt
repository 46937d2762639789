use Rattle.std.proofs.Common.{◌≡◌, ℕ, List, drop, map}
use Rattle.stm_keys.specs.Events.{change_of_event}
use Rattle.stm_leases.specs.Leases.{lease_of}
use Rattle.stm_txn.specs.Moves.{detached_all}
use Rattle.stm_txn.proofs.attach.detach_all.Given as goal

abbrev pub invariant-loop-event : goal.invariant-loop-event
invariant-loop-event l = record {
  reported : (key : List ℕ) → detached_all (map change_of_event (drop l.event-index l.events)) key (lease_of l.leases key)
      ≡ detached_all (map change_of_event l.events) key (lease_of l.fn.leases key);
  live : l.leases.live ≡ l.fn.leases.live;
  spare : l.leases.spare ≡ l.fn.leases.spare;
}
