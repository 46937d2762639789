-- What a run of events that ran out of memory comes to, once the rest of the events is run from the world that it left.
--
-- What each event comes to is the step of the world. That a list of events can be taken up where a run of it stopped is our own.
use Rattle.std.specs.Prelude.{◌≡◌, ◌≢◌, ℕ, ◌≤◌, List, [], ◌∷◌, ◌++◌, take, drop, Result, Ok, Err}
use Rattle.stm_outcome.specs.declared.advance.Expired.{Expired}
use Rattle.stm_txn.specs.Standing.{Standing, HasCome, at_moment, after, advanced}
use Rattle.stm_events.specs.declared.event.WorldEvent.{WorldEvent}
use Rattle.stm_events.specs.declared.reply.Reply.{Reply}
use Rattle.stm_events.specs.declared.reply.Reply.TheVariants.{Advanced}
use Rattle.stm_events.specs.declared.refusal.Denied.{Denied}
use Rattle.stm_world.specs.World.{World, step, world_after, replies_to}
use Rattle.stm_retry.specs.Returns.{IsStep, OutOfMemoryReturns, IsRunStop}

-- a reply with leases in front that had expired before: an advance reports them first, also where it is refused
abbrev pub with_expired : List Expired → Result Reply Denied → Result Reply Denied
with_expired before (Ok (Advanced moment expired)) = Ok (Advanced moment (before ++ expired))
with_expired before (Ok other) = Ok other
with_expired before (Err denied) = Err (record { cause = denied.cause; expired = before ++ denied.expired })

-- the same of the first of some replies
abbrev pub first_with_expired : List Expired → List (Result Reply Denied) → List (Result Reply Denied)
first_with_expired before [] = []
first_with_expired before (reply ∷ replies) = with_expired before reply ∷ replies

-- An event that ran out of memory is taken again from the world that it left. It gets the reply that it would have got at first, but that an
-- advance reports only what had not expired by then; and it leads to the same world.
abbrev pub RepeatsAlike : WorldEvent → List Expired → World → World → Type 0
RepeatsAlike event expired old new = IsStep (step event old) (with_expired expired (step event new).reply) (step event new).next

-- The replies to a whole list of events are those to the events that were taken before a stop, and then those to the rest from
-- the world that the stop left, the first of which has in front what the stopped event had expired. The world after is the same.
pub record GoesOnAlike (events : List WorldEvent) (taken : ℕ) (expired : List Expired) (old new : World) : Type 0 where
  pub replies : replies_to events old
      ≡ replies_to (take taken events) old ++ first_with_expired expired (replies_to (drop taken events) new)
  pub world : world_after events old ≡ world_after (drop taken events) new

-- ---- several stops ----

-- a stop: how many events were taken, what the stopped event had expired, and the world that was left
pub record Stop : Type 0 where
  pub done : ℕ
  pub expired : List Expired
  pub left : World

-- A run of these events from this world was stopped so; the rest was run from the world that was left, and that run was stopped
-- as the next one says, and so on.
abbrev pub AreStops : List Stop → List WorldEvent → World → Type 0
AreStops [] events w = Unit {0}
AreStops (s ∷ stops) events w = IsRunStop events s.done s.expired w s.left × AreStops stops (drop s.done events) s.left

-- the events that are left after the last stop, and the world that it left
abbrev pub events_left : List Stop → List WorldEvent → List WorldEvent
events_left [] events = events
events_left (s ∷ stops) events = events_left stops (drop s.done events)

abbrev pub world_left : List Stop → World → World
world_left [] w = w
world_left (s ∷ stops) w = world_left stops s.left

-- the replies to all events, where those after the last stop are run to the end
abbrev pub reported_in_all : List Stop → List WorldEvent → World → List (Result Reply Denied)
reported_in_all [] events w = replies_to events w
reported_in_all (s ∷ stops) events w =
    replies_to (take s.done events) w ++ first_with_expired s.expired (reported_in_all stops (drop s.done events) s.left)

-- After all these stops the replies are those of a run that was never stopped, and so is the world after it.
pub record ComeToTheWhole (stops : List Stop) (events : List WorldEvent) (w : World) : Type 0 where
  pub replies : replies_to events w ≡ reported_in_all stops events w
  pub world : world_after events w ≡ world_after (events_left stops events) (world_left stops w)

-- ---- the laws ----

-- An advance, an event or a run that ran out of memory goes on alike, wherever and however often it is stopped.
pub record StopsGoOn : Type 0 where
  -- an advance that was cut after any of its expiries: the same advance expires the rest, and comes to the same store and cause
  pub advances : (s left : Standing) (moment : ℕ) (expired : List Expired) → s.moment ≤ moment → HasCome (at_moment s moment) expired left
      → advanced s moment ≡ after expired (advanced left moment)
  pub events : (event : WorldEvent) (expired : List Expired) (old new : World) → OutOfMemoryReturns event expired old new
      → RepeatsAlike event expired old new
  pub runs : (events : List WorldEvent) (taken : ℕ) (expired : List Expired) (old new : World) → IsRunStop events taken expired old new
      → GoesOnAlike events taken expired old new
  pub all_runs : (stops : List Stop) (events : List WorldEvent) (w : World) → AreStops stops events w → ComeToTheWhole stops events w

-- Wrong accounts of how a run goes on after an advance that had expired some leases when it was stopped: none of them holds.
pub record WrongStops : Type 0 where
  -- the advance reports its whole list again
  pub list_reported_again : (events : List WorldEvent) (taken : ℕ) (expired : List Expired) (old new : World) → IsRunStop events taken expired old new
      → expired ≢ [] → replies_to events old ≡ replies_to (take taken events) old ++ replies_to (drop taken events) new → ⊥
  -- the world is as it was before the advance
  pub nothing_left : (events : List WorldEvent) (taken : ℕ) (expired : List Expired) (old new : World) → IsRunStop events taken expired old new
      → expired ≢ [] → new ≡ world_after (take taken events) old → ⊥
