-- What entries are replayed over: a store without its moment.
--
-- etcd's API reference, "Revisions" and "Lease": one history with one revision counter, and the leases that are live.
use Rattle.std.specs.Prelude.{ℕ, []}
use Rattle.std.specs.FinMap as finmap
use Rattle.stm_history.specs.Opening.{Opening, opening_at}
use Rattle.stm_history.specs.History.{History}
use Rattle.stm_leases.specs.Live.{Live}
use Rattle.stm_outcome.specs.Terms.{Terms, widest_terms}
use Rattle.stm_txn.specs.Standing.{Standing}

-- a history and the live leases with their terms
pub record Replayed : Type 0 where
  pub history : History
  pub live : Live

-- A store that opens with what each key was there, and no live lease: where leases were live, the entries begin with their grants.
abbrev pub opened_with : Opening → Replayed
opened_with start = record { history = record { opening = start; revisions = [] }; live = finmap.empty }

-- an empty store that opens at a revision
abbrev pub opening : ℕ → Replayed
opening number = opened_with (opening_at number)

-- a store without its moment
abbrev pub without_moment : Standing → Replayed
without_moment s = record { history = s.history; live = s.live }

-- the terms on which a transaction is replayed: the widest
abbrev pub replay_terms : Replayed → Terms
replay_terms r = widest_terms r.history r.live

abbrev pub with_history : Replayed → History → Replayed
with_history r h = record { history = h; live = r.live }

abbrev pub with_live : Replayed → Live → Replayed
with_live r live = record { history = r.history; live = live }
