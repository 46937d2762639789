-- A world whose store opens with keys and leases: it has no runners, and the entries that it begins with are the grants of its leases.
use Rattle.std.specs.Prelude.{◌≡◌, ◌≤◌, ℕ, List, [], true}
use Rattle.stm_history.specs.History.{now, key_at}
use Rattle.stm_keys.specs.Events.{events_of}
use Rattle.stm_txn.specs.Standing.{Standing}
use Rattle.stm_txn.specs.declared.restored.Checkpoint.{Checkpoint}
use Rattle.stm_txn.specs.Restored.{can_restore, restored}
use Rattle.stm_entries.specs.Restored.{grants_of}
use Rattle.stm_world.specs.World.{World}
use Rattle.stm_world.specs.Sound.{IsSound}

abbrev pub restored_world : Checkpoint → World
restored_world c = record { standing = restored c; runners = []; entries = grants_of c.leases }

-- it is sound, so that a world of the code can be it
abbrev pub RestoredWorldsAreSound : Type 0
RestoredWorldsAreSound = (c : Checkpoint) → can_restore c ≡ true → IsSound (restored_world c)

-- Two stores show the same at a revision and above it: what each key was, the events, the leases, and the moment.
pub record ShowTheSameFrom (floor : ℕ) (s t : Standing) : Type 0 where
  pub reached : now s.history ≡ now t.history
  pub keys : (r : ℕ) → floor ≤ r → (key : List ℕ) → key_at s.history key r ≡ key_at t.history key r
  pub events : (r : ℕ) → floor ≤ r → events_of s.history r ≡ events_of t.history r
  pub live : s.live ≡ t.live
  pub moment : s.moment ≡ t.moment
  pub limit : s.limit ≡ t.limit
