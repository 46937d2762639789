-- In a sound world a commit of which no compare fails has read what the store has.
use Rattle.std.proofs.Common.{arith}
use Rattle.std.proofs.lemmas.Bool.Decides.{nat_tests}
use Rattle.stm_compile.proofs.AgreeLemmas.{true_reads_are_now}
use Rattle.stm_events.specs.declared.event.WorldEvent.{WorldEvent}
use Rattle.stm_events.specs.Called.{Asked, asked}
use Rattle.stm_world.specs.World.{World}
use Rattle.stm_world.specs.Sound.{IsSound}
use Rattle.stm_world.specs.ReadsNow.{ReadsAreNowAsked, ReadsAreNow}

asked_reads_now : (a : Asked) (w : World) → IsSound w → ReadsAreNowAsked a w
asked_reads_now a w sound = grind (arith, nat_tests, true_reads_are_now)

pub reads_are_now : (event : WorldEvent) (w : World) → IsSound w → ReadsAreNow event w
reads_are_now event w sound = asked_reads_now (asked event) w sound
