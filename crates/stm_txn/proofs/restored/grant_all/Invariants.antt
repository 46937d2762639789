use Rattle.std.proofs.Common.{◌≡◌, drop}
use Rattle.stm_txn.specs.Restored.{are_granted, granted_all}
use Rattle.stm_txn.proofs.restored.grant_all.Given as goal

-- what is left decides, and is granted over what was
abbrev pub invariant-loop-lease : goal.invariant-loop-lease
invariant-loop-lease l = record {
  same : are_granted l.kept l.fn.leases.live ≡ are_granted (drop l.lease-index l.kept) l.leases.live;
  granted : granted_all l.kept l.fn.leases.live ≡ granted_all (drop l.lease-index l.kept) l.leases.live;
  loose : l.leases.attached ≡ l.fn.leases.attached;
}
