-- The store's revision before and after each event, as the replies tell it.
--
-- etcd's API reference, "Revisions": the counter moves with what changes a key, by one for each transaction and each lease that ends with keys.
use Rattle.std.specs.Prelude.{ℕ, List, [], ◌∷◌, Result, Ok, Err}
use Rattle.stm_outcome.specs.declared.advance.Expired.{Expired}
use Rattle.stm_events.specs.declared.reply.Reply.{Reply}
use Rattle.stm_events.specs.declared.reply.Reply.TheVariants.{Committed, Txn, Revoked, Advanced}
use Rattle.stm_events.specs.declared.refusal.Denied.{Denied}

-- the revision after the last of these expiries
abbrev pub last_expired : ℕ → List Expired → ℕ
last_expired before [] = before
last_expired before (lease ∷ expired) = last_expired lease.revision expired

-- the revision after an event: its reply tells it where the event may have changed a key
abbrev pub counter_after : ℕ → Result Reply Denied → ℕ
counter_after before (Ok (Committed runner revision attempts output trace answers)) = revision
counter_after before (Ok (Txn succeeded revision answers)) = revision
counter_after before (Ok (Revoked id revision)) = revision
counter_after before (Ok (Advanced now expired)) = last_expired before expired
counter_after before (Ok other) = before
counter_after before (Err denied) = last_expired before denied.expired

-- the revision before the first event, and that after each
abbrev pub counters : ℕ → List (Result Reply Denied) → List ℕ
counters counter [] = counter ∷ []
counters counter (reply ∷ replies) = counter ∷ counters (counter_after counter reply) replies
