-- Events and the replies to them.
use Rattle.std.proofs.Common.{◌≡◌, suc, List, [], ◌∷◌, length, refl, ap}
use Rattle.stm_events.specs.declared.event.WorldEvent.{WorldEvent}
use Rattle.stm_world.specs.World.{World, step, replies_to}

pub one_reply : (events : List WorldEvent) (w : World) → length (replies_to events w) ≡ length events
one_reply [] w = refl
one_reply (e ∷ es) w = ap suc (one_reply es (step e w).next)
