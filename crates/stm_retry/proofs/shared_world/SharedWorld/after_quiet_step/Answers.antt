use Rattle.std.proofs.Common.{◌∙◌, List, sym, subst}
use Rattle.stm_world.specs.Sound.{IsSound}
use Rattle.stm_world.specs.World.{World, Slot}
use Rattle.stm_retry.specs.WorldOf.{with_places}
use Rattle.stm_retry.proofs.SharingLemmas.{quiet_is_sound}
use Rattle.stm_retry.proofs.shared_world.SharedWorld.after_quiet_step.Goals as goal

pub over-requires : goal.over-requires
over-requires c =
    let sound : IsSound (with_places c.in_ok-runners.runners.items c.deref.result.now) =
    subst (λ (w : World). IsSound (with_places c.in_ok-runners.runners.items w)) (sym c.deref.ensures)
    (subst (λ (l : List Slot). IsSound (with_places l c.self.inside.base.value)) (sym c.in_ok-runners.ensures) c.self.invariant) in
    subst (λ (w : World). IsSound (with_places c.step_quietly.new.runners.items w)) (c.deref.ensures ∙ sym c.in_ok-base-in-Some.ensures.cases)
    (quiet_is_sound c.args.id c.deref.result.now c.in_ok-step_quietly.field-0 c.in-Some.reply c.in_ok-runners.runners.items c.step_quietly.new.runners.items
    c.in-Some.is sound c.in_ok-step_quietly.ensures)
