-- When a lease of the table falls due. No public clause cites this module.
use Rattle.std.specs.Prelude.{◌≡◌, ℕ, ◌+◌, ◌<◌, nat_lt, Option, Some, None, if◌then◌else◌}
use Rattle.stm_leases.specs.declared.lease.Lease.{Lease}
use Rattle.stm_leases.specs.declared.tournament.DueAt.{DueAt}
use Rattle.stm_leases.specs.declared.tournament.Tournament.{Tournament}
use Rattle.stm_leases.specs.Tournament.{IsPlayed, slot_of}

-- when a lease falls due, nothing where that is past the last moment
abbrev pub due_in : ℕ → Lease → Option DueAt
due_in id lease =
    if nat_lt (lease.renewed + lease.ttl) 18446744073709551616 then Some (record { moment = lease.renewed + lease.ttl; id = id }) else None

-- the slot of each lease's list holds when the lease falls due, and every other slot is empty
pub record IsTimed (table : ℕ → Option Lease) (due : Tournament) : Type 0 where
  pub played : IsPlayed due
  pub within : (id : ℕ) (lease : Lease) → table id ≡ Some lease → lease.keys < due.slots
  pub entered : (id : ℕ) (lease : Lease) → table id ≡ Some lease → slot_of due lease.keys ≡ due_in id lease
  pub only : (slot : ℕ) (d : DueAt) → slot_of due slot ≡ Some d
      → (lease : Lease) × (table d.id ≡ Some lease) × (due_in d.id lease ≡ Some d) × (lease.keys ≡ slot)
