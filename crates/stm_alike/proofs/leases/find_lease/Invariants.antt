use Rattle.std.proofs.Common.{◌≡◌, drop}
use Rattle.stm_alike.specs.Leases.{leases_of}
use Rattle.stm_alike.proofs.leases.find_lease.Given as goal

abbrev pub invariant-loop-index : goal.invariant-loop-index
invariant-loop-index l = leases_of (drop l.from l.entries) ≡ leases_of (drop l.index l.entries)
