use Rattle.std.proofs.Common.{◌≡◌, ◌++◌, drop}
use Rattle.stm_world.specs.World.{world_after, replies_to}
use Rattle.stm_report.specs.RunHistory.{IsWhole}
use Rattle.stm_report.proofs.run_history.run_with_history.Given as goal

-- the replies so far and those to the rest, and the world after the rest
abbrev pub invariant-loop-event : goal.invariant-loop-event
invariant-loop-event l = record {
  reported : l.replies.items ++ replies_to (drop l.event-index l.events) l.world ≡ replies_to l.events l.fn.world;
  rest : world_after (drop l.event-index l.events) l.world ≡ world_after l.events l.fn.world;
  whole : IsWhole l.whole.history l.world;
}
