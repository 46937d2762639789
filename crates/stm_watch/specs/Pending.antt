-- The events that are pending for a watcher, and the batch of a poll.
--
-- etcd's API reference, "Watch": `start_revision` of a `WatchCreateRequest` is inclusive, and 0 stands for the next revision; a
-- `WatchResponse` has the events in the order of their revisions, those of one revision are never parted, and none is dropped or sent twice,
-- unless the revision was compacted before the watcher was notified of it. That a batch has at most `most` revisions, and says up to which
-- one, is this store's own.
use Rattle.std.specs.Prelude.{ℕ, ◌-◌, max, nat_eq, nat_le, nat_lt, ◌&&◌, Bool, true, false, if◌then◌else◌, List, [], ◌∷◌, ◌++◌, length, take, Option, Some, None}
use Rattle.std.specs.List.{filter, flat_map}
use Rattle.stm_history.specs.declared.change.Change.{Change}
use Rattle.stm_history.specs.Opening.{Opening}
use Rattle.stm_history.specs.History.{History, number_of_last, now}
use Rattle.stm_keys.specs.declared.event.Event.{Event}
use Rattle.stm_keys.specs.Events.{events_above, key_of_event}
use Rattle.stm_watch.specs.declared.watched.Watched.{Watched}
use Rattle.stm_watch.specs.Watching.{Watching}
use Rattle.stm_watch.specs.declared.pending_revision.PendingRevision.{PendingRevision}
use Rattle.stm_watch.specs.declared.watchers.Batch.{Batch}
use Rattle.stm_watch.specs.Keys.{is_watched}

-- A new watcher: it wants what comes next, or everything from a revision on, which may be yet to come. It is lost from its start where
-- that revision is below the floor of the store.
abbrev pub watching_from : History → ℕ → Watched → ℕ → Watching
watching_from h floor watched from =
    record { watched = watched; seen = if nat_eq from 0 then now h else from - 1; lost = nat_lt 0 from && nat_lt from floor }

-- ---- what is pending

abbrev pub matching : Watched → List Event → List Event
matching watched events = filter (λ e. is_watched watched (key_of_event e)) events

-- a revision is pending where it has events that match
abbrev pub pending_of_revision : ℕ → List Event → List PendingRevision
pending_of_revision number [] = []
pending_of_revision number (e ∷ es) = record { number = number; events = e ∷ es } ∷ []

-- the revisions above one that are pending, the oldest first
abbrev pub pending_above : Opening → ℕ → Watched → List (List Change) → List PendingRevision
pending_above opening seen watched [] = []
pending_above opening seen watched (changes ∷ older) =
    let number = number_of_last opening (changes ∷ older) in
    pending_above opening seen watched older
    ++ (if nat_lt seen number then pending_of_revision number (matching watched (events_above opening changes older)) else [])

-- what is pending: the history's events that match, of the revisions that were not seen
abbrev pub pending : History → Watching → List PendingRevision
pending h w = pending_above h.opening w.seen w.watched h.revisions

-- the number of the first of these revisions
abbrev pub number_of_first : List PendingRevision → Option ℕ
number_of_first [] = None
number_of_first (t ∷ ts) = Some t.number

-- the first revision of which something is pending
abbrev pub first_pending : History → Watching → Option ℕ
first_pending h w = number_of_first (pending h w)

abbrev pub is_any_pending : List PendingRevision → Bool
is_any_pending [] = false
is_any_pending (t ∷ ts) = true

abbrev pub is_pending : History → Watching → Bool
is_pending h w = is_any_pending (pending h w)

-- ---- a poll

abbrev pub pending_events : List PendingRevision → List Event
pending_events ts = flat_map (λ (t : PendingRevision). t.events) ts

-- the last of these revisions, or else the one that was seen
abbrev pub last_number : ℕ → List PendingRevision → ℕ
last_number seen [] = seen
last_number seen (t ∷ ts) = last_number t.number ts

-- The batch has the pending events of at most `most` revisions. It reaches up to the counter where it has all of them, and else up to
-- the last revision that it has.
abbrev pub batch_of : ℕ → History → Watching → Batch
batch_of most h w =
    let reported = take most (pending h w) in
    record {
      events = pending_events reported;
      upto = if nat_le (length (pending h w)) most then max w.seen (now h) else last_number w.seen reported;
    }

abbrev pub after_poll : ℕ → History → Watching → Watching
after_poll most h w = record w { seen = (batch_of most h w).upto }
