-- What the store of a scenario opens with.
--
-- etcd's API reference, "Revisions": an empty store is at revision 1; and its server's flag `--max-txn-ops`, 128 where it is not given.
use Rattle.std.specs.Prelude.{◌≤◌, ℕ, Option, Some, None}
use Rattle.stm_history.specs.declared.revisions.TheConstants.{HIGHEST_REVISION}
use Rattle.stm_outcome.specs.Terms.{most_operations}
use Rattle.stm_txn.specs.Standing.{Setup, at_revision}

abbrev pub setup_at : ℕ → ℕ → Setup
setup_at revision limit = record { revision = revision; limit = limit }

-- the ranges of what a scenario may say of it
abbrev pub IsSetup : Setup → Type 0
IsSetup o = ((1 ≤ o.revision) × (o.revision ≤ HIGHEST_REVISION)) × ((1 ≤ o.limit) × (o.limit ≤ most_operations))

-- the same, where it says it
abbrev pub IsOpening : Option Setup → Type 0
IsOpening None = Unit {0}
IsOpening (Some o) = IsSetup o

-- revision 1 and the highest limit, where the scenario does not say it
abbrev pub setup_of : Option Setup → Setup
setup_of None = at_revision 1
setup_of (Some o) = o
