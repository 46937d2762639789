-- What a call that makes an event of the store's, one that is no runner's, returns and leaves.
use Rattle.std.specs.Prelude.{List, Result}
use Rattle.stm_journal.specs.JournalState.{JournalState}
use Rattle.stm_events.specs.declared.event.WorldEvent.{WorldEvent}
use Rattle.stm_events.specs.declared.reply.Reply.{Reply}
use Rattle.stm_events.specs.declared.refusal.Denied.{Denied}
use Rattle.stm_world.specs.World.{Slot}
use Rattle.stm_retry.specs.Returns.{Returns}
use Rattle.stm_retry.specs.WorldOf.{world_of}

-- the event has this reply in every world that has this journal, and leaves this one
abbrev pub CallReturns : WorldEvent → Result Reply Denied → JournalState → JournalState → Type 0
CallReturns event reply before after = (runners : List Slot) → Returns event reply (world_of before runners) (world_of after runners)
