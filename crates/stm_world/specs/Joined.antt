-- Events that are run after others.
use Rattle.std.specs.Prelude.{◌≡◌, List, ◌++◌}
use Rattle.stm_events.specs.declared.event.WorldEvent.{WorldEvent}
use Rattle.stm_world.specs.Log.{Line, IsLogOf}
use Rattle.stm_world.specs.World.{World, world_after, replies_to}

-- Later events are run from the world that the earlier ones lead to: their replies stand after the earlier ones, and so do their lines in a log.
pub record RunsGoOn : Type 0 where
  pub worlds : (earlier later : List WorldEvent) (w : World) → world_after (earlier ++ later) w ≡ world_after later (world_after earlier w)
  pub replies : (earlier later : List WorldEvent) (w : World) → replies_to (earlier ++ later) w ≡ replies_to earlier w ++ replies_to later (world_after earlier w)
  pub logs : (earlier later : List WorldEvent) (w : World) (log more : List Line) → IsLogOf earlier (replies_to earlier w) log
      → IsLogOf later (replies_to later (world_after earlier w)) more → IsLogOf (earlier ++ later) (replies_to (earlier ++ later) w) (more ++ log)
