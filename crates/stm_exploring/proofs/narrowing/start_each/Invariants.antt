use Rattle.std.proofs.Common.{◌≡◌, drop, filter}
use Rattle.stm_schedules.specs.Scenarios.{is_start}
use Rattle.stm_world.specs.World.{world_after}
use Rattle.stm_exploring.proofs.narrowing.start_each.Given as goal

-- the starts that are left lead from here to where all do
abbrev pub invariant-loop-event : goal.invariant-loop-event
invariant-loop-event l = world_after (filter is_start (drop l.event-index l.events)) l.world ≡ world_after (filter is_start l.events) l.fn.world
