-- A program that is run to its end while nobody else comes between.
use Rattle.std.specs.Prelude.{◌≡◌, ◌⊎◌, ℕ, None, Ok, replicate}
use Rattle.stm_events.specs.declared.event.WorldEvent.TheVariants.{Step}
use Rattle.stm_events.specs.declared.refusal.EventRefusal.{EventRefusal}
use Rattle.stm_events.specs.declared.refusal.EventRefusal.TheVariants.{OutOfMemory, BadLimit}
use Rattle.stm_events.specs.declared.reply.Reply.{Reply}
use Rattle.stm_events.specs.declared.reply.Reply.TheVariants.{Started}
use Rattle.stm_world.specs.Task.{Task}
use Rattle.stm_world.specs.World.{World, start_runner, runner_at, step, world_after}

-- the world after so many steps of a runner
abbrev pub after_steps : ℕ → ℕ → World → World
after_steps runner count w = world_after (replicate count (Step runner)) w

-- The program was started and made its steps, of which this is the reply to the last; after it the runner has ended.
pub record HasRunToEnd (task : Task) (before : World) (reply : Reply) (after : World) : Type 0 where
  pub runner : ℕ
  pub started : (start_runner task before).reply ≡ Ok (Started runner)
  pub steps : ℕ
  pub last : (step (Step runner) (after_steps runner steps (start_runner task before).next)).reply ≡ Ok reply
  pub left : (step (Step runner) (after_steps runner steps (start_runner task before).next)).next ≡ after
  pub ended : runner_at runner after.runners ≡ None

-- The program was started and made some of its steps.
pub record HasBegun (task : Task) (before after : World) : Type 0 where
  pub runner : ℕ
  pub started : (start_runner task before).reply ≡ Ok (Started runner)
  pub steps : ℕ
  pub left : after ≡ after_steps runner steps (start_runner task before).next

-- Why it was not run to its end: it may send no commit, and the world is as it was; or memory ran out, before it was started or after some of its steps.
abbrev pub IsBrokenOff : Task → World → EventRefusal → World → Type 0
IsBrokenOff task before cause after =
    ((cause ≡ BadLimit) × (task.limit ≡ 0) × (after ≡ before)) ⊎ ((cause ≡ OutOfMemory) × ((after ≡ before) ⊎ HasBegun task before after))
