-- The calls about watchers come to the same once the revisions below the floor are dropped.
use Rattle.std.proofs.Common.{◌≡◌, ℕ, ◌+◌, ◌-◌, ◌≤◌, zero, suc, Bool, false, cond, List, [], ◌∷◌, ◌++◌, length, take, Option, Some, None}
use Rattle.std.proofs.Common.{slice_index_or, slice_set, arith}
use Rattle.std.proofs.lemmas.Bool.{le-ltb, Decides.nat_tests}
use Rattle.std.specs.Prelude.{nat_eq, nat_le, nat_lt, ◌&&◌, max, IfSome}
use Rattle.stm_history.specs.History.{History, now}
use Rattle.stm_history.specs.Cut.{cut}
use Rattle.stm_watch.specs.declared.watched.Watched.{Watched}
use Rattle.stm_watch.specs.declared.pending_revision.PendingRevision.{PendingRevision}
use Rattle.stm_watch.specs.declared.watchers.Batch.{Batch}
use Rattle.stm_watch.specs.Watching.{Watching}
use Rattle.stm_watch.specs.Pending.{pending, first_pending, pending_events, last_number}
use Rattle.stm_watch.specs.Calls.{watcher_at, Step as WatchStep, poll_found}
use Rattle.stm_watch.proofs.CutNotifying.{followed_cut}
use Rattle.stm_txn.specs.Standing.{Standing, kept, watched, polled, cancelled, IsKeptFor, AreKeptFor, HasKept}
use Rattle.stm_compaction.specs.Kept.{kept_step}
use Rattle.stm_compaction.proofs.Alike.{cut_is_alike}
use Rattle.stm_compaction.proofs.Calls.{HasReached}

-- ---- what is pending

pub pending_kept : (floor : ℕ) (h : History) (w : Watching) → floor ≤ now h → IfSome (first_pending h w) (λ n. floor ≤ n) →
    pending (cut (floor - 1) h) w ≡ pending h w
pending_kept floor h w reached first = grind (arith, nat_tests, followed_cut, le-ltb)

-- ---- a watch

-- the watchers with a new one that was made at this counter
abbrev made_at : Standing → Watched → ℕ → ℕ → WatchStep ℕ
made_at s keys from counter = record {
  answer = length s.watchers + 1;
  next = s.watchers
      ++ Some (record { watched = keys; seen = cond (nat_eq from 0) counter (from - 1); lost = nat_lt 0 from && nat_lt from s.floor })
      ∷ [];
}

pub watched_kept : (s : Standing) → HasReached s → (keys : Watched) (from : ℕ) → watched (kept s) keys from ≡ kept_step (watched s keys from)
watched_kept s reached keys from = grind (arith, nat_tests, cut_is_alike)

-- ---- a poll

abbrev given : ℕ → Watching → ℕ → List PendingRevision → Batch
given most w counter ts =
    record { events = pending_events (take most ts); upto = cond (nat_le (length ts) most) (max w.seen counter) (last_number w.seen (take most ts)) }

abbrev reported_so : ℕ → Watching → List (Option Watching) → Batch → WatchStep Batch
reported_so id w ws batch = record { answer = batch; next = slice_set ws (id - 1) (Some (record w { seen = batch.upto })) }

lost_or_not : (s : Standing) → HasReached s → (id most : ℕ) (w : Watching) (lost : Bool) → w.lost ≡ lost →
    (lost ≡ false → IfSome (first_pending s.history w) (λ n. s.floor ≤ n)) →
    poll_found (cut (s.floor - 1) s.history) id most s.watchers (Some w) ≡ poll_found s.history id most s.watchers (Some w)
lost_or_not s reached id most w lost is waits = grind (arith, nat_tests, pending_kept, cut_is_alike)

found_kept : (s : Standing) → HasReached s → (id most : ℕ) (o : Option Watching) → IsKeptFor s.history s.floor o →
    poll_found (cut (s.floor - 1) s.history) id most s.watchers o ≡ poll_found s.history id most s.watchers o
found_kept s reached id most o waits = grind (arith, nat_tests, lost_or_not)

kept_at : (h : History) (floor : ℕ) (ws : List (Option Watching)) (i : ℕ) → AreKeptFor h floor ws → IsKeptFor h floor (slice_index_or ws i None)
kept_at h floor [] i are = tt
kept_at h floor (w ∷ ws) zero are = are.0
kept_at h floor (w ∷ ws) (suc i) are = kept_at h floor ws i are.1

pub kept_for : (s : Standing) → HasKept s → (id : ℕ) → IsKeptFor s.history s.floor (watcher_at id s.watchers)
kept_for s has id = grind (arith, nat_tests, kept_at)

pub polled_kept : (s : Standing) → HasKept s → (id most : ℕ) → polled (kept s) id most ≡ kept_step (polled s id most)
polled_kept s has id most = grind (arith, nat_tests, found_kept, kept_for)

-- ---- a cancellation

pub cancelled_kept : (s : Standing) (id : ℕ) → cancelled (kept s) id ≡ kept_step (cancelled s id)
cancelled_kept s id = grind (arith, nat_tests)
