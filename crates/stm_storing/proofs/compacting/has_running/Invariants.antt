use Rattle.std.proofs.Common.{◌≡◌, ℕ, ◌+◌, ◌<◌, false, is_some}
use Rattle.stm_world.specs.World.{runner_at}
use Rattle.stm_storing.proofs.compacting.has_running.Given as goal

-- none of those before this one
abbrev pub invariant-loop-runner : goal.invariant-loop-runner
invariant-loop-runner l = (k : ℕ) → k < l.runner → is_some (runner_at (k + 1) l.world.runners) ≡ false
