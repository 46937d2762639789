use Rattle.stm_serial_search.specs.Replaying.{StepsOn}
use Rattle.stm_serial_search.proofs.replaying.make_run.Given as goal

abbrev pub invariant-loop-turn : goal.invariant-loop-turn
invariant-loop-turn g l = StepsOn l.fn.made.items l.fn.world l.made.items l.world
