-- The entries that a world begins with whose store opened with leases: their grants. So a replay from what the history opens with gives the store.
use Rattle.std.specs.Prelude.{List, map}
use Rattle.stm_txn.specs.declared.restored.KeptLease.{KeptLease}
use Rattle.stm_entries.specs.declared.entry.Entry.{Entry}
use Rattle.stm_entries.specs.declared.entry.Entry.TheVariants.{Grant}

abbrev pub grant_of : KeptLease → Entry
grant_of lease = Grant lease.id lease.ttl lease.renewed

abbrev pub grants_of : List KeptLease → List Entry
grants_of leases = map grant_of leases
