-- What a watcher is notified of over a whole log: every event that it watches, once and in order.
--
-- etcd's API guarantees, "Watch APIs": the events of a watch are ordered, unique, reliable and atomic. They come by their revisions,
-- none twice, none between is dropped, and those of a revision come together; and its API reference, "Watch": a watch whose events
-- were compacted is cancelled, with an answer that says so.
use Rattle.std.specs.Prelude.{◌≡◌, ◌⊎◌, ℕ, nat_eq, Bool, true, false, ◌||◌, if◌then◌else◌, List, [], ◌∷◌, ◌++◌, Option, Some, None, Result, Ok}
use Rattle.stm_history.specs.History.{History}
use Rattle.stm_keys.specs.declared.event.Event.{Event}
use Rattle.stm_watch.specs.declared.watched.Watched.TheVariants.{Key, Range}
use Rattle.stm_watch.specs.Watching.{Watching}
use Rattle.stm_watch.specs.Places.{is_lost}
use Rattle.stm_watch.specs.Pending.{watching_from, pending, first_pending, pending_events}
use Rattle.stm_watch.specs.Calls.{watcher_at}
use Rattle.stm_txn.specs.Standing.{Standing, IsKeptFor, Setup}
use Rattle.stm_events.specs.declared.event.WorldEvent.{WorldEvent}
use Rattle.stm_events.specs.declared.event.WorldEvent.TheVariants.{WatchKey, WatchRange, Poll, Cancel}
use Rattle.stm_events.specs.declared.reply.Reply.{Reply}
use Rattle.stm_events.specs.declared.reply.Reply.TheVariants.{Watching as WatchingReply, Batch, Cancelled, Lost}
use Rattle.stm_events.specs.declared.refusal.Denied.{Denied}
use Rattle.stm_world.specs.Log.{Line, is_id, store}
use Rattle.stm_world.specs.Headline.{OfEachLog}

-- the watcher that a reply gives its number
abbrev pub watcher_made : Result Reply Denied → Option ℕ
watcher_made (Ok (WatchingReply watcher)) = Some watcher
watcher_made other = None

abbrev pub made : ℕ → Watching → Result Reply Denied → Option Watching
made id w reply = if is_id id (watcher_made reply) then Some w else None

-- the watcher with a number that an event makes: what it watches, and from which revision on
abbrev pub made_by : ℕ → Standing → WorldEvent → Result Reply Denied → Option Watching
made_by id s (WatchKey key from) reply = made id (watching_from s.history s.floor (Key key) from) reply
made_by id s (WatchRange first end from) reply = made id (watching_from s.history s.floor (Range first end) from) reply
made_by id s other reply = None

abbrev pub or_earlier : Option Watching → Option Watching → Option Watching
or_earlier None earlier = earlier
or_earlier (Some w) earlier = Some w

-- how a watcher began
abbrev pub begun_watching : Setup → ℕ → List Line → Option Watching
begun_watching start id [] = None
begun_watching start id (line ∷ older) =
    or_earlier (made_by id (store start older) line.event line.reply) (begun_watching start id older)

-- the watcher that a reply gives up: it was cancelled, or a poll found it lost
abbrev pub watcher_given_up : Result Reply Denied → Option ℕ
watcher_given_up (Ok (Cancelled watcher)) = Some watcher
watcher_given_up (Ok (Lost watcher floor)) = Some watcher
watcher_given_up other = None

abbrev pub gives_up : ℕ → WorldEvent → Result Reply Denied → Bool
gives_up id (Poll watcher most) reply = is_id id (watcher_given_up reply)
gives_up id (Cancel watcher) reply = is_id id (watcher_given_up reply)
gives_up id other reply = false

-- whether a watcher was given up
abbrev pub is_given_up : ℕ → List Line → Bool
is_given_up id [] = false
is_given_up id (line ∷ older) = gives_up id line.event line.reply || is_given_up id older

-- how a watcher began that was not given up
abbrev pub watching : Setup → ℕ → List Line → Option Watching
watching start id log = if is_given_up id log then None else begun_watching start id log

-- the events in a reply
abbrev pub events_in : Result Reply Denied → List Event
events_in (Ok (Batch watcher upto events)) = events
events_in other = []

-- the events of which a line notifies a watcher: those of the batch of its poll
abbrev pub reported_by : ℕ → WorldEvent → Result Reply Denied → List Event
reported_by id (Poll watcher most) reply = if nat_eq watcher id then events_in reply else []
reported_by id other reply = []

-- the events of which all its batches notified a watcher, in their order
abbrev pub events_to : ℕ → List Line → List Event
events_to id [] = []
events_to id (line ∷ older) = events_to id older ++ reported_by id line.event line.reply

-- A watcher that is lost began below the floor, or the first event that is pending for it is below it.
abbrev pub IsLostFor : History → ℕ → Watching → Watching → Type 0
IsLostFor h floor begun w = w.lost ≡ true → (begun.lost ≡ true) ⊎ (is_lost floor (first_pending h w) ≡ true)

-- A watcher that began so stands in the store; and what it was notified of, followed by what is pending for it, is what would be pending
-- for it had it never been polled: each event that it watches from its start on, once, in order. Nothing that is pending for it is
-- compacted, unless it is lost; and it is lost for no other cause.
pub record IsNotifiedOfAll (start : Setup) (log : List Line) (id : ℕ) (begun : Watching) : Type 0 where
  pub w : Watching
  pub stands : watcher_at id (store start log).watchers ≡ Some w
  pub same : w.watched ≡ begun.watched
  pub all : events_to id log ++ pending_events (pending (store start log).history w) ≡ pending_events (pending (store start log).history begun)
  pub kept : IsKeptFor (store start log).history (store start log).floor (Some w)
  pub because : IsLostFor (store start log).history (store start log).floor begun w

-- a watcher is there exactly where it began and was not given up, and it is notified of all
abbrev pub IsNotifiedSo : Setup → List Line → ℕ → Option Watching → Type 0
IsNotifiedSo start log id None = watcher_at id (store start log).watchers ≡ None
IsNotifiedSo start log id (Some begun) = IsNotifiedOfAll start log id begun

-- Every watcher is notified of all.
abbrev pub WatchersAreNotified : Type 0
WatchersAreNotified = OfEachLog (λ (start : Setup) (log : List Line). (id : ℕ) → IsNotifiedSo start log id (watching start id log))
