-- What a run of events adds to the entries of a world.
use Rattle.std.specs.Prelude.{◌≡◌, List, ◌++◌}
use Rattle.stm_entries.specs.declared.entry.Entry.{Entry}
use Rattle.stm_entries.specs.Replayed.{without_moment}
use Rattle.stm_entries.specs.Replay.{replay}
use Rattle.stm_entries.specs.Legal.{AreLegal}
use Rattle.stm_events.specs.declared.event.WorldEvent.{WorldEvent}
use Rattle.stm_world.specs.World.{World, world_after}
use Rattle.stm_world.specs.Sound.{IsSound}

-- Entries stand after those that were there; they are legal, each at its point, from the store as it was, and replay to the store as it is.
pub record HasAppended (old new : World) : Type 0 where
  pub more : List Entry
  pub entries : new.entries ≡ old.entries ++ more
  pub legal : AreLegal more (without_moment old.standing)
  pub replays : replay more (without_moment old.standing) ≡ without_moment new.standing

-- From any sound world, also one that has run before, events only append entries.
abbrev pub EventsAppend : Type 0
EventsAppend = (events : List WorldEvent) (w : World) → IsSound w → HasAppended w (world_after events w)
