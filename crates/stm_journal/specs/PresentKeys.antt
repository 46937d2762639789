-- The keys that are present, as a list.
--
-- etcd's API reference, "Range": a read without a revision shows the keys that are present now; as its server sorts them where no
-- order is asked for, they ascend by bytes.
use Rattle.std.specs.Prelude.{◌≡◌, ℕ, Bool, bytes_eq, is_some, List}
use Rattle.std.specs.List.{list_any}
use Rattle.stm_history.specs.History.{History, key_now}
use Rattle.stm_leases.specs.AttachedKeys.{IsAscending}

-- a key is among these
abbrev pub is_listed : List ℕ → List (List ℕ) → Bool
is_listed key keys = list_any (λ k. bytes_eq k key) keys

-- these are the keys that are present, each once, ascending by bytes
pub record ArePresent (h : History) (keys : List (List ℕ)) : Type 0 where
  pub ascending : IsAscending keys
  pub each : (key : List ℕ) → is_listed key keys ≡ is_some (key_now h key)
