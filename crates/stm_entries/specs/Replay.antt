-- The replay of entries: a fold over a history and the live leases.
--
-- A program is run again alone at its point, a foreign transaction is made again, and each lease item does to the live leases
-- and their keys what the call did that it stands for. Moments and runners are not replayed.
use Rattle.std.specs.Prelude.{ℕ, List, [], ◌∷◌, Option, Some, None}
use Rattle.std.specs.FinMap as finmap
use Rattle.stm_leases.specs.LeaseLog.{Term}
use Rattle.stm_leases.specs.Live.{Live}
use Rattle.stm_meaning.specs.Meaning.{run_over}
use Rattle.stm_outcome.specs.Outcome.{outcome, with_changes}
use Rattle.stm_txn.specs.LeaseKeys.{deletions_of}
use Rattle.stm_entries.specs.declared.entry.Entry.{Entry}
use Rattle.stm_entries.specs.declared.entry.Entry.TheVariants.{Program, Foreign, Grant, Renew, Revoke, Expire}
use Rattle.stm_entries.specs.Replayed.{Replayed, with_history, with_live, replay_terms}
use Rattle.stm_entries.specs.Alone.{seen_at, history_left, left_by_run}

-- a live lease is renewed at a moment, with the time to live that it has
abbrev pub renewed_at : Live → ℕ → ℕ → Option Term → Live
renewed_at live id moment None = live
renewed_at live id moment (Some term) = finmap.insert live id (record { ttl = term.ttl; renewed = moment })

-- a lease ends, and its keys are deleted in one revision, ascending by bytes
abbrev pub without_lease : Replayed → ℕ → Replayed
without_lease r id =
    record { history = with_changes r.history (deletions_of r.history id); live = finmap.remove r.live id }

abbrev pub replay_entry : Entry → Replayed → Replayed
replay_entry (Program program level answers output trace revision) r =
    left_by_run (run_over (seen_at level answers r.history) program.statements) r
replay_entry (Foreign txn) r = with_history r (history_left r.history (outcome (replay_terms r) txn))
replay_entry (Grant id ttl moment) r = with_live r (finmap.insert r.live id (record { ttl = ttl; renewed = moment }))
replay_entry (Renew id moment) r = with_live r (renewed_at r.live id moment (finmap.get r.live id))
replay_entry (Revoke id) r = without_lease r id
replay_entry (Expire id) r = without_lease r id

-- the entries in their order
abbrev pub replay : List Entry → Replayed → Replayed
replay [] r = r
replay (e ∷ es) r = replay es (replay_entry e r)
