-- What a copy of the parts of a store keeps.
use Rattle.std.proofs.Common.{◌≡◌, ◌≤◌, ℕ, arith}
use Rattle.std.proofs.lemmas.Bool.Decides.{nat_tests}
use Rattle.stm_history.specs.History.{now}
use Rattle.stm_keys.specs.Keys.{Contents}
use Rattle.stm_leases.specs.Leases.{Leases, lease_of}
use Rattle.stm_watch.specs.Places.{WatchersView, watchings}
use Rattle.stm_watch.specs.Calls.{StandFor}
use Rattle.stm_txn.specs.Leasing.{AttachedAsStored}
use Rattle.stm_outcome.specs.Numbers.{LeasesFit}
use Rattle.stm_txn.specs.Store.{StoreView}

-- what a store keeps true of its parts
abbrev pub AreParts : Contents → Leases → WatchersView → Type 0
AreParts keys leases watchers =
    AttachedAsStored (lease_of leases) keys.history × LeasesFit keys.history × StandFor keys.history watchers × (watchers.floor ≡ keys.floor)
    × (keys.floor ≤ now keys.history)

-- what contracts see of its parts
abbrev pub store_of : ℕ → Contents → Leases → ℕ → WatchersView → StoreView
store_of limit keys leases moment watchers = record {
  standing = record { history = keys.history; floor = keys.floor; limit = limit; live = leases.live; moment = moment; watchers = watchings watchers };
  present = keys.present;
  opened = keys.opened;
}

module _ (keys copied_keys : Contents) (leases copied_leases : Leases) (watchers copied_watchers : WatchersView)
    (same_keys : copied_keys ≡ keys) (same_leases : copied_leases ≡ record leases { spare = 0 }) (same_watchers : copied_watchers ≡ watchers) where
  pub parts_copied : AreParts keys leases watchers → AreParts copied_keys copied_leases copied_watchers
  parts_copied are = grind (arith, nat_tests)

  pub store_copied : (limit moment : ℕ) → store_of limit copied_keys copied_leases moment copied_watchers ≡ store_of limit keys leases moment watchers
  store_copied limit moment = grind (arith, nat_tests)
