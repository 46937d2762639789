-- Events that are run after others.
use Rattle.std.proofs.Common.{◌≡◌, List, [], ◌∷◌, ◌++◌, map, reverse, refl, ap, arith}
use Rattle.std.proofs.lemmas.List.{map-append, reverse-append}
use Rattle.std.specs.Prelude.{Result}
use Rattle.std.proofs.lemmas.Bool.Decides.{nat_tests}
use Rattle.stm_events.specs.declared.event.WorldEvent.{WorldEvent}
use Rattle.stm_events.specs.declared.reply.Reply.{Reply}
use Rattle.stm_events.specs.declared.refusal.Denied.{Denied}
use Rattle.stm_world.specs.Log.{Line, IsLogOf}
use Rattle.stm_world.specs.World.{World, step, world_after, replies_to}
use Rattle.stm_world.specs.Joined.{RunsGoOn}

worlds : (earlier later : List WorldEvent) (w : World) → world_after (earlier ++ later) w ≡ world_after later (world_after earlier w)
worlds [] later w = refl
worlds (e ∷ earlier) later w = worlds earlier later (step e w).next

replies : (earlier later : List WorldEvent) (w : World) → replies_to (earlier ++ later) w ≡ replies_to earlier w ++ replies_to later (world_after earlier w)
replies [] later w = refl
replies (e ∷ earlier) later w = ap (λ (rs : List (Result Reply Denied)). (step e w).reply ∷ rs) (replies earlier later (step e w).next)

-- what the lines of both logs show is that of the earlier and then of the later ones, reversed
both : {A : Type 0} (show : Line → A) (log more : List Line) (first second : List A) → map show log ≡ reverse first → map show more ≡ reverse second →
    map show (more ++ log) ≡ reverse (first ++ second)
both {A} show log more first second is then = grind (arith, nat_tests, map-append, reverse-append)

logs : (earlier later : List WorldEvent) (w : World) (log more : List Line) → IsLogOf earlier (replies_to earlier w) log →
    IsLogOf later (replies_to later (world_after earlier w)) more → IsLogOf (earlier ++ later) (replies_to (earlier ++ later) w) (more ++ log)
logs earlier later w log more first second = grind (arith, nat_tests, both, replies)

pub runs_go_on : RunsGoOn
runs_go_on = record { worlds = worlds; replies = replies; logs = logs }
