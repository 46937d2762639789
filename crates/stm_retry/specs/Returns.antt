-- What a call that takes events reports and leaves, also where memory runs out.
--
-- The step of the world says what each event comes to. That an event which the step takes may be refused as out of memory, and what
-- it leaves, is our own.
use Rattle.std.specs.Prelude.{◌≡◌, ◌⊎◌, ℕ, ◌≤◌, List, [], take, Bool, true, false, Option, None, Some, Result, Ok, Err, IsOk, slice_get}
use Rattle.stm_outcome.specs.declared.advance.Expired.{Expired}
use Rattle.stm_txn.specs.Standing.{HasCome, at_moment, advanced, IsStopped}
use Rattle.stm_events.specs.declared.event.WorldEvent.{WorldEvent}
use Rattle.stm_events.specs.declared.event.WorldEvent.TheVariants.{Advance, Compact}
use Rattle.stm_events.specs.declared.reply.Reply.{Reply}
use Rattle.stm_events.specs.declared.refusal.Denied.{Denied}
use Rattle.stm_events.specs.declared.refusal.EventRefusal.{EventRefusal}
use Rattle.stm_events.specs.declared.refusal.EventRefusal.TheVariants.{OutOfMemory}
use Rattle.stm_world.specs.World.{World, Stepped, step, world_after}
use Rattle.stm_world.specs.Sound.{after_expiries}

-- The step's reply and next world are these.
pub record IsStep (s : Stepped) (reply : Result Reply Denied) (new : World) : Type 0 where
  pub reply_is : s.reply ≡ reply
  pub next_is : s.next ≡ new

-- nothing expired, and the world is as it was
abbrev pub IsUnchanged : List Expired → World → World → Type 0
IsUnchanged expired old new = (expired ≡ []) × (new ≡ old)

-- An advance that was cut short because memory ran out: the moment is set, these leases expired in their order and are entries, and the
-- rest, of which the first could end, stays due.
pub record IsCutShort (moment : ℕ) (expired : List Expired) (old new : World) : Type 0 where
  pub come : HasCome (at_moment old.standing moment) expired new.standing
  pub stopped : IsStopped (advanced old.standing moment) expired new.standing
  pub rest : new ≡ after_expiries old new.standing expired

-- Out of memory is reported only of an event that the step takes, and of an advance that does not go back; and never of a compaction, which
-- takes none. The world is as it was, or the advance was cut short.
abbrev pub OutOfMemoryReturns : WorldEvent → List Expired → World → World → Type 0
OutOfMemoryReturns (Advance moment) expired old new =
    (old.standing.moment ≤ moment) × (IsUnchanged expired old new ⊎ IsCutShort moment expired old new)
OutOfMemoryReturns (Compact revision) expired old new = ⊥
OutOfMemoryReturns event expired old new = IsUnchanged expired old new × IsOk (step event old).reply

abbrev pub RefusalReturns : EventRefusal → WorldEvent → Denied → World → World → Type 0
RefusalReturns OutOfMemory event denied old new = OutOfMemoryReturns event denied.expired old new
RefusalReturns other event denied old new = IsStep (step event old) (Err denied) new

-- The reply and the next world are the step's, unless memory ran out.
abbrev pub Returns : WorldEvent → Result Reply Denied → World → World → Type 0
Returns event (Ok reply) old new = IsStep (step event old) (Ok reply) new
Returns event (Err denied) old new = RefusalReturns denied.cause event denied old new

abbrev pub is_out_of_memory : EventRefusal → Bool
is_out_of_memory OutOfMemory = true
is_out_of_memory other = false

-- an event was refused as out of memory
abbrev pub ran_out : Result Reply Denied → Bool
ran_out (Ok reply) = false
ran_out (Err denied) = is_out_of_memory denied.cause

-- the leases that had expired before a refusal
abbrev pub expired_of : Result Reply Denied → List Expired
expired_of (Ok reply) = []
expired_of (Err denied) = denied.expired

-- what an event of a run reports and leaves where memory runs out
abbrev pub OutOfMemoryReturnsAt : Option WorldEvent → List Expired → World → World → Type 0
OutOfMemoryReturnsAt None expired before new = ⊥
OutOfMemoryReturnsAt (Some event) expired before new = OutOfMemoryReturns event expired before new

-- A run of events that ran out of memory after `taken` of them: before the first one, where there was no room for the
-- replies, or at the next one.
abbrev pub IsRunStop : List WorldEvent → ℕ → List Expired → World → World → Type 0
IsRunStop events taken expired old new =
    ((taken ≡ 0) × IsUnchanged expired old new) ⊎ OutOfMemoryReturnsAt (slice_get events taken) expired (world_after (take taken events) old) new
