use Rattle.std.proofs.Common.{◌≡◌, take}
use Rattle.stm_exploring.specs.Replaying.{outcomes_after}
use Rattle.stm_exploring.proofs.replaying.outcomes_after.Given as goal

-- what the schedules so far come to
abbrev pub invariant-loop-schedule : goal.invariant-loop-schedule
invariant-loop-schedule l = l.all.items ≡ outcomes_after (record { world = l.world; others = l.others }) l.ends (take l.schedule-index l.schedules)
