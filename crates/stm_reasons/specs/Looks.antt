-- When a runner saw a key last, in the attempt whose commit ended.
--
-- The Go package `concurrency`, "STM": an attempt reads a key once. At a serializable level a commit that failed reads again, in one transaction, what it had
-- read, and the next attempt begins with that.
use Rattle.std.specs.Prelude.{ℕ, zero, suc, Bool, ◌&&◌, nat_eq, bytes_eq, if◌then◌else◌, List, get_or, slice_get, Option, Some, None, Result, Ok}
use Rattle.std.specs.List.{list_any}
use Rattle.stm_events.specs.declared.reply.Reply.{Reply}
use Rattle.stm_events.specs.declared.reply.Reply.TheVariants.{Started, Prefetched, Fetched, Conflict}
use Rattle.stm_events.specs.declared.reply.KeyRead.{KeyRead}
use Rattle.stm_events.specs.declared.refusal.Denied.{Denied}
use Rattle.stm_reasons.specs.declared.looks.Glance.{Glance}
use Rattle.stm_reasons.specs.declared.looks.Glance.TheVariants.{Read, Begun, Other}
use Rattle.stm_reasons.specs.declared.looks.Look.{Look}

-- the key is among those of a list
unfoldable pub is_listed : List ℕ → List KeyRead → Bool
is_listed key reads = list_any (λ (read : KeyRead). bytes_eq read.key key) reads

-- what a reply is to a runner that reads a key: a read of it, as of a revision, or where an attempt begins
abbrev pub glanced : ℕ → List ℕ → Result Reply Denied → Glance
glanced runner key (Ok (Fetched reader name mod_rev of_rev revision)) =
    if nat_eq reader runner && bytes_eq name key then Read of_rev else Other
glanced runner key (Ok (Prefetched reader revision reads)) =
    if nat_eq reader runner && is_listed key reads then Read revision else Other
glanced runner key (Ok (Conflict loser name seen now)) = if nat_eq loser runner then Begun else Other
glanced runner key (Ok (Started begun)) = if nat_eq begun runner then Begun else Other
glanced runner key other = Other

abbrev pub glance_at : ℕ → List ℕ → Option (Result Reply Denied) → Glance
glance_at runner key None = Other
glance_at runner key (Some reply) = glanced runner key reply

-- the look that event `number` is, where it is one, else an earlier one: an attempt that has not read the key saw the store as it was when it began
abbrev pub look_or : Glance → ℕ → ℕ → Look → Look
look_or (Read revision) number counter earlier = record { event = Some number; revision = revision }
look_or Begun number counter earlier = record { event = None; revision = counter }
look_or Other number counter earlier = earlier

-- the last look among that many events
abbrev pub last_look : ℕ → List ℕ → List ℕ → List (Result Reply Denied) → ℕ → Look
last_look runner key counters replies zero = record { event = None; revision = 0 }
last_look runner key counters replies (suc before) =
    look_or (glance_at runner key (slice_get replies before)) (suc before) (get_or counters (suc before) 0)
    (last_look runner key counters replies before)
