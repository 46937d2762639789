-- The keys that are present, as a list that is computed from the history.
--
-- etcd's API reference, "Range": without a revision a range shows the keys that are present now, ascending by bytes as its
-- server sorts them where no order is asked for.
use Rattle.std.specs.Prelude.{◌≡◌, ◌↔◌, ℕ, true, is_some, List, filter, Contains}
use Rattle.stm_history.specs.History.{History, key_now}
use Rattle.stm_leases.specs.AttachedKeys.{IsAscending}
use Rattle.stm_txn.specs.LeaseKeys.{keys_named}

-- the keys that are present, ascending by bytes
abbrev pub keys_present : History → List (List ℕ)
keys_present h = filter (λ key. is_some (key_now h key)) (keys_named h)

-- Ascending keys that are those that are present are this list.
abbrev pub PresentKeysAreListed : Type 0
PresentKeysAreListed =
    (h : History) (keys : List (List ℕ)) → IsAscending keys → ((key : List ℕ) → Contains keys key ↔ (is_some (key_now h key) ≡ true)) → keys ≡ keys_present h
