-- The live leases of a map.
use Rattle.std.specs.Prelude.{◌≡◌, ℕ, option_map}
use Rattle.std.specs.BTreeMap as tree
use Rattle.std.specs.BTreeMap.{BTreeMap}
use Rattle.std.specs.Ordering.{nat_cmp}
use Rattle.std.specs.FinMap as finmap
use Rattle.stm_leases.specs.LeaseLog.{Term}
use Rattle.stm_leases.specs.Live.{Live}
use Rattle.stm_entries.specs.declared.live_leases.LiveLease.{LiveLease}

abbrev pub term_of : LiveLease → Term
term_of lease = record { ttl = lease.ttl; renewed = lease.renewed }

-- the map has exactly these leases, each with its term
abbrev pub HasLeases : BTreeMap ℕ LiveLease → Live → Type 0
HasLeases leases live = (id : ℕ) → option_map term_of (tree.get nat_cmp leases id) ≡ finmap.get live id
