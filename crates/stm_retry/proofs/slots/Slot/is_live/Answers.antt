use Rattle.std.proofs.Common.{◌≡◌, ◌∙◌, ap, refl, Option, Some, None, is_some}
use Rattle.stm_world.specs.World.{Slot as Place, live_in}
use Rattle.stm_retry.specs.RunnerView.{RunnerView, slot_of}
use Rattle.stm_retry.proofs.slots.Slot.is_live.Goals as goal

by_runner : (o : Option RunnerView) → is_some o ≡ is_some (live_in (Some (slot_of o)))
by_runner None = refl
by_runner (Some v) = refl

pub returns : goal.returns
returns c = c.is_some.ensures ∙ by_runner c.self.inside.runner ∙ ap (λ (s : Place). is_some (live_in (Some s))) c.self.view_is
