-- The world that a journal is, with runners on it.
use Rattle.std.specs.Prelude.{List}
use Rattle.stm_journal.specs.JournalState.{JournalState}
use Rattle.stm_world.specs.World.{World, Slot}

-- Its store is as the journal has it. Where the journal began is not seen.
abbrev pub world_of : JournalState → List Slot → World
world_of j runners = record { standing = j.standing; runners = runners; entries = j.entries }

-- a world's store and entries, with these runners
abbrev pub with_places : List Slot → World → World
with_places places w = record { standing = w.standing; runners = places; entries = w.entries }
