-- Nothing that is pending is below the floor, unless a watcher is lost: so it stays with each call.
use Rattle.std.proofs.Common.{◌≡◌, ℕ, ◌-◌, ◌≤◌, zero, suc, false, List, [], ◌∷◌, ◌++◌, Option, Some, None, arith, slice_index_or, slice_set}
use Rattle.std.proofs.lemmas.Bool.{ltb-false, Decides.nat_tests}
use Rattle.std.specs.Prelude.{option_map}
use Rattle.stm_history.specs.declared.change.Change.{Change}
use Rattle.stm_history.specs.History.{History, now}
use Rattle.stm_watch.specs.declared.watched.Watched.{Watched}
use Rattle.stm_watch.specs.Watching.{Watching}
use Rattle.stm_watch.specs.Pending.{watching_from, after_poll}
use Rattle.stm_watch.specs.Calls.{watcher_at, compacted_one, compacted}
use Rattle.stm_outcome.specs.Outcome.{with_changes}
use Rattle.stm_txn.specs.Standing.{Standing, IsKeptFor, AreKeptFor, HasKept}
use Rattle.stm_world.proofs.Polling.{polled_from, changes_from, begun_from}

-- ---- at places

pub kept_there : (h : History) (floor : ℕ) (ws : List (Option Watching)) (i : ℕ) → AreKeptFor h floor ws → IsKeptFor h floor (slice_index_or ws i None)
kept_there h floor [] zero are = tt
kept_there h floor [] (suc i) are = tt
kept_there h floor (x ∷ ws) zero are = are.0
kept_there h floor (x ∷ ws) (suc i) are = kept_there h floor ws i are.1

-- the watcher with a number
pub kept_at : (h : History) (floor : ℕ) (ws : List (Option Watching)) (id : ℕ) → AreKeptFor h floor ws → IsKeptFor h floor (watcher_at id ws)
kept_at h floor ws id are = grind (arith, nat_tests, kept_there)

pub kept_set : (h : History) (floor : ℕ) (ws : List (Option Watching)) (i : ℕ) (o : Option Watching) → AreKeptFor h floor ws → IsKeptFor h floor o →
    AreKeptFor h floor (slice_set ws i o)
kept_set h floor [] zero o are is = tt
kept_set h floor [] (suc i) o are is = tt
kept_set h floor (x ∷ ws) zero o are is = (is, are.1)
kept_set h floor (x ∷ ws) (suc i) o are is = (are.0, kept_set h floor ws i o are.1 is)

pub kept_after : (h : History) (floor : ℕ) (ws : List (Option Watching)) (o : Option Watching) → AreKeptFor h floor ws → IsKeptFor h floor o →
    AreKeptFor h floor (ws ++ o ∷ [])
kept_after h floor [] o are is = (is, tt)
kept_after h floor (x ∷ ws) o are is = (are.0, kept_after h floor ws o are.1 is)

-- ---- by call

-- a change
one_changed : (h : History) (floor : ℕ) (changes : List Change) (o : Option Watching) → floor ≤ now h → IsKeptFor h floor o →
    IsKeptFor (with_changes h changes) floor o
one_changed h floor changes o reached is = grind (arith, nat_tests, changes_from)

all_changed : (h : History) (floor : ℕ) (changes : List Change) (ws : List (Option Watching)) → floor ≤ now h → AreKeptFor h floor ws →
    AreKeptFor (with_changes h changes) floor ws
all_changed h floor changes [] reached are = tt
all_changed h floor changes (w ∷ ws) reached are = (one_changed h floor changes w reached are.0, all_changed h floor changes ws reached are.1)

pub kept_by_changes : (s : Standing) (changes : List Change) → HasKept s → HasKept (record s { history = with_changes s.history changes })
kept_by_changes s changes k = grind (arith, nat_tests, all_changed)

-- a watch
pub kept_by_watch : (s : Standing) (keys : Watched) (from : ℕ) → HasKept s →
    AreKeptFor s.history s.floor (s.watchers ++ Some (watching_from s.history s.floor keys from) ∷ [])
kept_by_watch s keys from k = grind (arith, nat_tests, kept_after, begun_from)

-- a poll of a watcher that is there
pub kept_by_poll : (s : Standing) (id most : ℕ) (w : Watching) → HasKept s → watcher_at id s.watchers ≡ Some w → w.lost ≡ false →
    AreKeptFor s.history s.floor (slice_set s.watchers (id - 1) (Some (after_poll most s.history w)))
kept_by_poll s id most w k found kept = grind (arith, nat_tests, kept_at, kept_set, polled_from)

one_compacted : (h : History) (floor : ℕ) (o : Option Watching) → IsKeptFor h floor (option_map (compacted_one h floor) o)
one_compacted h floor o = grind (arith, nat_tests, ltb-false)

pub kept_by_compaction : (h : History) (floor : ℕ) (ws : List (Option Watching)) → AreKeptFor h floor (compacted h floor ws)
kept_by_compaction h floor [] = tt
kept_by_compaction h floor (w ∷ ws) = (one_compacted h floor w, kept_by_compaction h floor ws)
