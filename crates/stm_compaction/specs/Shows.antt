-- What a history without the revisions below a floor has in common with the whole one.
--
-- etcd's API reference, "Compact": the revisions below the compacted one are dropped, and what the keys are from it on stays.
use Rattle.std.specs.Prelude.{◌≡◌, ℕ, ◌≤◌, List}
use Rattle.stm_history.specs.History.{History, now, key_now, key_at}
use Rattle.stm_keys.specs.Events.{events_of}
use Rattle.stm_txn.specs.LeaseKeys.{keys_of_lease}
use Rattle.stm_txn.specs.PresentKeys.{keys_present}

-- One history shows what another does: the counter, the keys now, which of them are present and which are attached to each lease, and from a
-- floor on the keys at each revision, and its events.
pub record ShowsTheSame (floor : ℕ) (g h : History) : Type 0 where
  pub counter : now g ≡ now h
  pub keys_now : (key : List ℕ) → key_now g key ≡ key_now h key
  pub present : keys_present g ≡ keys_present h
  pub on_leases : (id : ℕ) → keys_of_lease g id ≡ keys_of_lease h id
  pub keys_at : (key : List ℕ) (r : ℕ) → floor ≤ r → key_at g key r ≡ key_at h key r
  pub events : (n : ℕ) → floor ≤ n → events_of g n ≡ events_of h n
