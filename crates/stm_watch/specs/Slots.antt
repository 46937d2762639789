-- What a poll makes of one place. No public clause cites this module.
use Rattle.std.specs.Prelude.{◌≡◌, ℕ, ◌-◌, nat_eq, false, List, slice_index_or, slice_set, Option, Some, None, IsSome, Result, Ok, Err}
use Rattle.std.specs.declared.alloc.AllocError.{AllocError}
use Rattle.stm_history.specs.History.{History}
use Rattle.stm_watch.specs.Watching.{Watching}
use Rattle.stm_watch.specs.declared.watched.Watched.{Watched}
use Rattle.stm_watch.specs.declared.watched.Watcher.{Watcher}
use Rattle.stm_watch.specs.declared.watchers.Batch.{Batch}
use Rattle.stm_watch.specs.Calls.{watcher_at}
use Rattle.stm_watch.specs.Walk.{first_above}
use Rattle.stm_watch.specs.Pending.{first_pending, batch_of, after_poll}

-- a watcher that is not lost
abbrev pub followed : Watcher → Watching
followed w = record { watched = w.watched; seen = w.seen; lost = false }

-- a watcher that was notified up to a revision, ready where something is there above it
abbrev pub awaiting : History → Watched → ℕ → Watcher
awaiting h watched seen = record { watched = watched; seen = seen; first = first_above h watched seen }

-- where the watcher with a number stands
abbrev pub IsPlaceOf : ℕ → List (Option Watcher) → Option ℕ → Type 0
IsPlaceOf id ws None = watcher_at id ws ≡ None
IsPlaceOf id ws (Some place) = (nat_eq id 0 ≡ false) × (place ≡ id - 1) × IsSome (slice_index_or ws place None)

-- it has the first revision of which events of it are pending, if there is one
abbrev pub IsFollowed : History → Watcher → Type 0
IsFollowed h w = w.first ≡ first_pending h (followed w)

-- the watcher, with the first revision of which events are pending
abbrev pub standing : History → Watching → Watcher
standing h w = record { watched = w.watched; seen = w.seen; first = first_pending h w }

-- a watcher is given its batch, and has been notified up to its end
abbrev pub IsPolled : History → ℕ → Option Watcher → Batch → Option Watcher → Type 0
IsPolled h most None batch new = ⊥
IsPolled h most (Some w) batch new = (batch ≡ batch_of most h (followed w)) × (new ≡ Some (standing h (after_poll most h (followed w))))

-- a refusal leaves the place as it was
abbrev pub SlotPolls : History → ℕ → Option Watcher → Result Batch AllocError → Option Watcher → Type 0
SlotPolls h most old (Ok batch) new = IsPolled h most old batch new
SlotPolls h most old (Err error) new = new ≡ old

-- a watcher that is ready from a revision on
abbrev pub made_ready : ℕ → Watcher → Watcher
made_ready revision w = record w { first = Some revision }

-- the same, where the place is one of several
abbrev pub PlacePolls : History → ℕ → ℕ → List (Option Watcher) → Result Batch AllocError → List (Option Watcher) → Type 0
PlacePolls h most i old result new =
    (slot : Option Watcher) × (new ≡ slice_set old i slot) × SlotPolls h most (slice_index_or old i None) result slot
