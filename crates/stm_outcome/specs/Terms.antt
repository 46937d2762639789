-- What a store takes a transaction on.
--
-- etcd's API reference, "Transaction" and "Lease", for the keys that are compared and read and for the leases that keys are put
-- on; "Compaction": no revision below the compacted one can be read; and its server's flag `--max-txn-ops`, the most operations
-- of a transaction, 128 where it is not given.
use Rattle.std.specs.Prelude.{ℕ, Bool, ◌&&◌, nat_lt}
use Rattle.stm_history.specs.History.{History}
use Rattle.stm_leases.specs.Live.{Live, is_live_in}
use Rattle.stm_outcome.specs.declared.check.TheConstants.{MOST_OPERATIONS}

-- the history, whether an id is that of a live lease, the lowest revision that can be read, and the most elements of each of a
-- transaction's three lists
pub record Terms : Type 0 where
  pub history : History
  pub is_live : ℕ → Bool
  pub floor : ℕ
  pub limit : ℕ

-- the most operations that any store takes
abbrev pub most_operations : ℕ
most_operations = MOST_OPERATIONS

-- the terms of a store with a limit and a floor
abbrev pub terms_at : ℕ → ℕ → History → Live → Terms
terms_at limit floor h live = record { history = h; is_live = is_live_in live; floor = floor; limit = limit }

-- the terms of one whose limit is the highest
abbrev pub terms_above : ℕ → History → Live → Terms
terms_above floor h live = terms_at most_operations floor h live

-- the terms on which most is taken: every revision can be read, and the limit is the highest
abbrev pub widest_terms : History → Live → Terms
widest_terms h live = terms_above 0 h live

-- a read names a revision, not 0 for the current one, that is below the floor
abbrev pub is_below_floor : ℕ → ℕ → Bool
is_below_floor floor rev = nat_lt 0 rev && nat_lt rev floor
