-- One step more of a runner.
use Rattle.std.proofs.Common.{◌≡◌, ℕ, zero, suc, ◌+◌, refl, sym, ◌∙◌, ap, arith}
use Rattle.stm_events.specs.declared.event.WorldEvent.TheVariants.{Step}
use Rattle.stm_world.specs.World.{World, step}
use Rattle.stm_driving.specs.Driving.{after_steps}

step_last : (runner count : ℕ) (w : World) → (step (Step runner) (after_steps runner count w)).next ≡ after_steps runner (suc count) w
step_last runner zero w = refl
step_last runner (suc count) w = step_last runner count (step (Step runner) w).next

pub one_step_more : (runner count : ℕ) (w before after : World) → before ≡ after_steps runner count w → (step (Step runner) before).next ≡ after
    → after ≡ after_steps runner (count + 1) w
one_step_more runner count w before after is next =
    let more : count + 1 ≡ suc count = omega arith in
    sym next ∙ ap (λ (x : World). (step (Step runner) x).next) is ∙ step_last runner count w ∙ ap (λ (n : ℕ). after_steps runner n w) (sym more)
