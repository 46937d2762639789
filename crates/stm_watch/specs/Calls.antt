-- What each call makes of the watchers of a store.
--
-- Watchers have the numbers 1, 2, 3, .. in the order of their making, and a cancelled one keeps its place.
use Rattle.std.specs.Prelude.{◌≡◌, ℕ, ◌+◌, ◌-◌, nat_eq, Bool, true, false, ◌||◌, if◌then◌else◌, List, [], ◌∷◌, ◌++◌, length, map, slice_index_or, slice_set}
use Rattle.std.specs.Prelude.{Option, Some, None, is_some, option_map, IsOk, Result, Ok, Err}
use Rattle.stm_history.specs.History.{History}
use Rattle.stm_watch.specs.declared.watched.Watched.{Watched}
use Rattle.stm_watch.specs.declared.watched.Watcher.{Watcher}
use Rattle.stm_watch.specs.declared.watchers.Batch.{Batch}
use Rattle.stm_watch.specs.declared.refusal.WatchRefusal.{WatchRefusal}
use Rattle.stm_watch.specs.declared.refusal.WatchRefusal.TheVariants.{EmptyKey, OutOfMemory}
use Rattle.stm_watch.specs.declared.refusal.PollRefusal.{PollRefusal}
use Rattle.stm_watch.specs.declared.refusal.PollRefusal.TheVariants.{NoWatcher, Compacted, OutOfMemory as PollOutOfMemory}
use Rattle.stm_watch.specs.Keys.{first_key, is_range}
use Rattle.stm_watch.specs.Watching.{Watching}
use Rattle.stm_watch.specs.Places.{WatchersView, with_places, is_lost, watching_of, watchings}
use Rattle.stm_watch.specs.Pending.{watching_from, is_pending, first_pending, batch_of, after_poll}

-- ---- the watchers as the rules see them

-- the watcher with this number, if there is one that was not cancelled
abbrev pub watcher_at : {A : Type 0} → ℕ → List (Option A) → Option A
watcher_at id ws = if nat_eq id 0 then None else slice_index_or ws (id - 1) None

-- whether there is a watcher with this number, and it is of a range
abbrev pub watches_range : ℕ → List (Option Watcher) → Bool
watches_range id places = is_range (option_map (λ (w : Watcher). w.watched) (watcher_at id places))

-- what a call that is not refused comes to: its answer, and the watchers after it
pub record Step (A : Type 0) : Type 0 where
  pub answer : A
  pub next : List (Option Watching)

-- a watch from a revision on, in a store with this floor
abbrev pub watch : History → ℕ → Watched → ℕ → List (Option Watching) → Result (Step ℕ) WatchRefusal
watch h floor watched from ws =
    if nat_eq (length (first_key watched)) 0 then Err EmptyKey
    else Ok (record { answer = length ws + 1; next = ws ++ Some (watching_from h floor watched from) ∷ [] })

abbrev pub cancelled : ℕ → List (Option Watching) → List (Option Watching)
cancelled id ws = slice_set ws (id - 1) None

-- a poll of a watcher that is there
abbrev pub poll_found : History → ℕ → ℕ → List (Option Watching) → Option Watching → Result (Step Batch) PollRefusal
poll_found h id most ws None = Err NoWatcher
poll_found h id most ws (Some w) =
    if w.lost then Err Compacted
    else Ok (record { answer = batch_of most h w; next = slice_set ws (id - 1) (Some (after_poll most h w)) })

-- a poll of at most `most` revisions
abbrev pub poll : History → ℕ → ℕ → List (Option Watching) → Result (Step Batch) PollRefusal
poll h id most ws = poll_found h id most ws (watcher_at id ws)

-- whether the watcher that stands somewhere is lost
abbrev pub is_one_lost : Option Watching → Bool
is_one_lost None = false
is_one_lost (Some w) = w.lost

-- The watchers once a poll was refused: a lost one is cancelled by it, and otherwise they are as they were.
abbrev pub after_refused : ℕ → List (Option Watching) → List (Option Watching)
after_refused id ws = if is_one_lost (watcher_at id ws) then cancelled id ws else ws

-- A compaction at a revision, which is the floor then, loses a watcher for which events of revisions below it are pending: it was not notified
-- of them, and can't be any more. (etcd's API reference, "Watch": `compact_revision` of a `WatchResponse`.)
abbrev pub compacted_one : History → ℕ → Watching → Watching
compacted_one h floor w = record w { lost = w.lost || is_lost floor (first_pending h w) }

abbrev pub compacted : History → ℕ → List (Option Watching) → List (Option Watching)
compacted h floor ws = map (option_map (compacted_one h floor)) ws

-- A call comes to what its definition says, unless an allocation failed.
abbrev pub WatchReturns : Result (Step ℕ) WatchRefusal → Result ℕ WatchRefusal → List (Option Watching) → Type 0
WatchReturns defined (Ok id) next = defined ≡ Ok (record { answer = id; next = next })
WatchReturns defined (Err EmptyKey) next = defined ≡ Err EmptyKey
WatchReturns defined (Err OutOfMemory) next = IsOk defined

abbrev pub PollReturns : Result (Step Batch) PollRefusal → Result Batch PollRefusal → List (Option Watching) → Type 0
PollReturns defined (Ok batch) next = defined ≡ Ok (record { answer = batch; next = next })
PollReturns defined (Err NoWatcher) next = defined ≡ Err NoWatcher
PollReturns defined (Err Compacted) next = defined ≡ Err Compacted
PollReturns defined (Err PollOutOfMemory) next = IsOk defined

-- the kept watchers once a poll was refused
abbrev pub view_refused : ℕ → WatchersView → WatchersView
view_refused id v = with_places v (if is_one_lost (watcher_at id (watchings v)) then slice_set v.places (id - 1) None else v.places)

-- ---- the watchers as they are kept, each with the first revision of which events of it are pending

-- one that is not lost has the first revision of which events of it are pending, if there is one
abbrev pub Stands : History → ℕ → Option Watcher → Type 0
Stands h floor None = Unit {0}
Stands h floor (Some w) = is_lost floor w.first ≡ false → w.first ≡ first_pending h (watching_of floor w)

abbrev pub StandAll : History → ℕ → List (Option Watcher) → Type 0
StandAll h floor [] = Unit {0}
StandAll h floor (w ∷ ws) = Stands h floor w × StandAll h floor ws

-- The watchers stand for a history: each that is not lost has the first revision of which events of it are pending, if there is one.
abbrev pub StandFor : History → WatchersView → Type 0
StandFor h v = StandAll h v.floor v.places

-- a watcher is ready where it has a first revision: events are pending, or it is lost
abbrev pub is_ready : Option Watcher → Bool
is_ready None = false
is_ready (Some w) = is_some w.first

abbrev pub is_ready_at : ℕ → List (Option Watcher) → Bool
is_ready_at id ws = is_ready (watcher_at id ws)

-- one that is ready, nothing exactly where none is
abbrev pub IsNextReady : List (Option Watcher) → Option ℕ → Type 0
IsNextReady ws (Some id) = is_ready_at id ws ≡ true
IsNextReady ws None = (id : ℕ) → is_ready_at id ws ≡ false

-- whether a poll has something to report to the watcher with a number: events that are pending, or that it is lost
abbrev pub is_pending_for : History → Option Watching → Bool
is_pending_for h None = false
is_pending_for h (Some w) = w.lost || is_pending h w

-- one for which a poll has something to report, nothing exactly where there is none
abbrev pub IsNextPending : History → List (Option Watching) → Option ℕ → Type 0
IsNextPending h ws (Some id) = is_pending_for h (watcher_at id ws) ≡ true
IsNextPending h ws None = (id : ℕ) → is_pending_for h (watcher_at id ws) ≡ false
