-- What a call that makes a step of a runner reports and leaves.
use Rattle.std.specs.Prelude.{◌≡◌, Result, Ok, Err, IsOk}
use Rattle.std.specs.declared.alloc.AllocError.{AllocError}
use Rattle.stm_events.specs.declared.reply.Reply.{Reply}
use Rattle.stm_events.specs.declared.refusal.Denied.{Denied}
use Rattle.stm_events.specs.declared.refusal.EventRefusal.TheVariants.{OutOfMemory}
use Rattle.stm_events.specs.Replies.{denied}
use Rattle.stm_world.specs.World.{World, Stepped}

-- The reply and the next world are the step's, unless memory ran out: then the event is one that the step takes, and the
-- world is as it was.
abbrev pub Returns : Result (Result Reply Denied) AllocError → World → World → Stepped → Type 0
Returns (Ok reply) old new s = (s.reply ≡ reply) × (s.next ≡ new)
Returns (Err e) old new s = (new ≡ old) × IsOk s.reply

-- the reply of such a call to the world's caller: out of memory is a refusal, too
abbrev pub as_reply : Result (Result Reply Denied) AllocError → Result Reply Denied
as_reply (Ok reply) = reply
as_reply (Err e) = denied OutOfMemory
