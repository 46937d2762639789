use Rattle.std.proofs.Common.{◌≡◌, take}
use Rattle.stm_entries.specs.Restored.{grants_of}
use Rattle.stm_retry.proofs.kept_world.grants_of.Given as goal

abbrev pub invariant-loop-lease : goal.invariant-loop-lease
invariant-loop-lease l = l.entries.items ≡ grants_of (take l.lease-index l.leases)
