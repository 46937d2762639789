-- A store that opens with keys and leases: one that has dropped all its revisions up to one comes back so.
--
-- etcd's API reference, "Compaction": what a store shows from the compacted revision on stays; and "Maintenance", `Snapshot`: a store comes back with its
-- revisions, versions and leases as they were.
use Rattle.std.specs.Prelude.{ℕ, ◌&&◌, ◌||◌, Bool, true, is_none, nat_eq, nat_le, List, [], ◌∷◌, Option, None, Some}
use Rattle.std.specs.Ordering.{nat_cmp, is_lt}
use Rattle.std.specs.Cmp.Lexicographic.{slice_cmp}
use Rattle.std.specs.FinMap as finmap
use Rattle.stm_history.specs.declared.key_state.KeyState.{KeyState}
use Rattle.stm_history.specs.declared.revisions.TheConstants.{HIGHEST_REVISION}
use Rattle.stm_history.specs.Opening.{States}
use Rattle.stm_keys.specs.CanOpen.{can_open}
use Rattle.stm_leases.specs.LeaseLog.{Term}
use Rattle.stm_leases.specs.Live.{Live, is_live_in, grant_refusal}
use Rattle.stm_outcome.specs.Terms.{most_operations}
use Rattle.stm_txn.specs.declared.restored.KeptLease.{KeptLease}
use Rattle.stm_txn.specs.declared.restored.Checkpoint.{Checkpoint}
use Rattle.stm_txn.specs.Standing.{Standing}

abbrev pub term_kept : KeptLease → Term
term_kept lease = record { ttl = lease.ttl; renewed = lease.renewed }

-- the live leases once these were granted, each at its own moment
abbrev pub granted_all : List KeptLease → Live → Live
granted_all [] live = live
granted_all (lease ∷ leases) live = granted_all leases (finmap.insert live lease.id (term_kept lease))

abbrev pub live_of : Checkpoint → Live
live_of c = granted_all c.leases finmap.empty

-- the store that opens so, at moment 0: no revision is there yet, and it was never compacted
abbrev pub restored : Checkpoint → Standing
restored c = record {
  history = record { opening = record { number = c.revision; states = c.states }; revisions = [] };
  floor = 0;
  limit = c.operations;
  live = live_of c;
  moment = 0;
  watchers = [];
}

-- a key stands behind the one before it, if there is one
abbrev pub stands_behind : Option (List ℕ) → List ℕ → Bool
stands_behind None key = true
stands_behind (Some earlier) key = is_lt (slice_cmp nat_cmp earlier key)

-- the first of these states stands behind a key, if there are both
abbrev pub can_follow : Option (List ℕ) → States → Bool
can_follow before [] = true
can_follow before (e ∷ states) = stands_behind before e.0

-- a key is on no lease, or on a live one
abbrev pub is_attached_in : Live → KeyState → Bool
is_attached_in live s = nat_eq s.lease 0 || is_live_in live s.lease

abbrev pub are_attached_in : Live → States → Bool
are_attached_in live [] = true
are_attached_in live (e ∷ states) = is_attached_in live e.1 && are_attached_in live states

-- none of these grants is refused
abbrev pub are_granted : List KeptLease → Live → Bool
are_granted [] live = true
are_granted (lease ∷ leases) live =
    is_none (grant_refusal live lease.id lease.ttl) && are_granted leases (finmap.insert live lease.id (term_kept lease))

-- its numbers, and those of its keys, are those of a store
abbrev pub is_in_range : Checkpoint → Bool
is_in_range c =
    nat_le 1 c.revision && (nat_le c.revision HIGHEST_REVISION && (nat_le 1 c.operations && (nat_le c.operations most_operations && can_open c.revision c.states)))

-- a store can open so
abbrev pub can_restore : Checkpoint → Bool
can_restore c = is_in_range c && (are_granted c.leases finmap.empty && are_attached_in (live_of c) c.states)
