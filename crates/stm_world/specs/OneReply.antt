-- There is one right reply to an event after a log, so that being right says what a world replies, and not only something of it.
use Rattle.std.specs.Prelude.{◌≡◌, List, Result}
use Rattle.stm_events.specs.declared.event.WorldEvent.{WorldEvent}
use Rattle.stm_events.specs.declared.reply.Reply.{Reply}
use Rattle.stm_events.specs.declared.refusal.Denied.{Denied}
use Rattle.stm_world.specs.Log.{Line, IsLogOf}
use Rattle.stm_world.specs.Right.{IsRight, AreRight}
use Rattle.stm_world.specs.World.{opened, replies_to}
use Rattle.stm_txn.specs.Standing.{Setup}

pub record OneRightReply : Type 0 where
  -- two right replies to an event after the same lines are one
  pub one : (start : Setup) (log : List Line) (event : WorldEvent) (a b : Result Reply Denied) → IsRight start log event a → IsRight start log event b → a ≡ b
  -- so where each line of a log is right, its replies are those of the world
  pub replies : (start : Setup) (events : List WorldEvent) (replies : List (Result Reply Denied)) (log : List Line) → IsLogOf events replies log
      → AreRight start log → replies ≡ replies_to events (opened start)
