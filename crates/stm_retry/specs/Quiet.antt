-- Steps of runners that change nothing in the store.
--
-- The documentation of the Go package `clientv3/concurrency`, "STM": an attempt changes nothing but by its commit.
use Rattle.std.specs.Prelude.{Bool, true, false, Result, Ok}
use Rattle.stm_events.specs.declared.reply.Reply.{Reply}
use Rattle.stm_events.specs.declared.reply.Reply.TheVariants.{Committed}
use Rattle.stm_events.specs.declared.refusal.Denied.{Denied}

-- whether a reply says that a runner committed
abbrev pub is_commit : Result Reply Denied → Bool
is_commit (Ok (Committed runner revision attempts output trace answers)) = true
is_commit other = false
