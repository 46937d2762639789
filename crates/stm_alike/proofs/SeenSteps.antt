-- A step from what can be seen of a world.
use Rattle.std.proofs.Common.{◌≡◌, ◌∙◌, ap, arith}
use Rattle.std.proofs.lemmas.Bool.Decides.{nat_tests}
use Rattle.stm_events.specs.declared.event.WorldEvent.{WorldEvent}
use Rattle.stm_world.specs.World.{World, step}
use Rattle.stm_alike.specs.Seen.{seen_world, seen_reply, IsNoWatch, AlikeWorldsAreSame}
use Rattle.stm_alike.proofs.Stepping.{plain_world, next_same, told_same}
use Rattle.stm_alike.proofs.LevelledSteps.{levelled_world, runner_seen, next_levelled, told_levelled}

-- attempts are levelled before what cannot be seen is left out
next_seen : (event : WorldEvent) (w : World) → seen_world (step event (seen_world w)).next ≡ seen_world (step event w).next
next_seen event w =
    ap levelled_world (next_same event (levelled_world w)) ∙ ap plain_world (next_levelled event w)

told_seen : (event : WorldEvent) (w : World) → IsNoWatch event → seen_reply (step event (seen_world w)).reply ≡ seen_reply (step event w).reply
told_seen event w plain = ap seen_reply (told_same event (levelled_world w) plain) ∙ told_levelled event w

pub alike_worlds_are_same : AlikeWorldsAreSame
alike_worlds_are_same = grind (arith, nat_tests, next_seen, told_seen, runner_seen)
