-- For which causes a world refuses an event, or ends a run: those of its store, and two of its own.
--
-- etcd's API reference: each call of a store that is refused is refused for a cause of the store. That a start is refused for its limit, and a
-- step where no run goes on, is our own.
use Rattle.std.specs.Prelude.{◌≡◌, ℕ, List, Ok, Err}
use Rattle.stm_outcome.specs.declared.refusal.Refusal.{Refusal as StoreRefusal}
use Rattle.stm_txn.specs.Standing.{Setup}
use Rattle.stm_events.specs.declared.event.WorldEvent.{WorldEvent}
use Rattle.stm_events.specs.declared.event.WorldEvent.TheVariants.{Step}
use Rattle.stm_events.specs.declared.reply.Reply.TheVariants.{Ended}
use Rattle.stm_events.specs.declared.refusal.EventRefusal.{EventRefusal}
use Rattle.stm_events.specs.declared.refusal.EventRefusal.TheVariants.{BadLimit, NoRunner}
use Rattle.stm_events.specs.declared.refusal.Denied.{Denied}
use Rattle.stm_events.specs.Replies.{event_refusal}
use Rattle.stm_events.specs.Called.{Asked, Starts, Steps, Calls, asked}
use Rattle.stm_world.specs.Log.{Line}
use Rattle.stm_world.specs.Right.{IsRight}

-- a cause for which the store refuses a call
abbrev pub IsOfStore : EventRefusal → Type 0
IsOfStore cause = (by_store : StoreRefusal) × (cause ≡ event_refusal by_store)

abbrev pub IsCauseAsked : Asked → EventRefusal → Type 0
IsCauseAsked (Starts program level limit) cause = cause ≡ BadLimit
IsCauseAsked (Steps id) cause = cause ≡ NoRunner
IsCauseAsked (Calls c) cause = IsOfStore cause

-- a cause for which an event can be refused
abbrev pub IsCauseAt : WorldEvent → EventRefusal → Type 0
IsCauseAt event cause = IsCauseAsked (asked event) cause

pub record CausesOfWorlds : Type 0 where
  -- an event that is refused is refused for a cause that it can have
  pub refused : (start : Setup) (log : List Line) (event : WorldEvent) (refusal : Denied) → IsRight start log event (Err refusal)
      → IsCauseAt event refusal.cause
  -- and a run that is ended by a refusal is ended by one of the store
  pub ended : (start : Setup) (log : List Line) (id runner : ℕ) (cause : EventRefusal) → IsRight start log (Step id) (Ok (Ended runner cause))
      → IsOfStore cause
