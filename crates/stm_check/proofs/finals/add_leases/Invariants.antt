use Rattle.std.proofs.Common.{◌≡◌, ◌++◌, map}
use Rattle.stm_check.specs.StoreLines.{lease_line}
use Rattle.stm_entries.proofs.ListedLeases.{terms}
use Rattle.stm_check.proofs.finals.add_leases.Given as goal

-- the lines so far, and those of the leases that are left
abbrev pub invariant-loop-id : goal.invariant-loop-id
invariant-loop-id l =
    l.lines.items ++ map lease_line (terms l.id-iterator) ≡ l.fn.lines.items ++ map lease_line (terms l.leases.entries)
