use Rattle.stm_serial_search.specs.Replaying.{GoesOn}
use Rattle.stm_serial_search.proofs.replaying.make_order.Given as goal

abbrev pub invariant-loop-chosen : goal.invariant-loop-chosen
invariant-loop-chosen g l = GoesOn l.fn.made.items l.fn.world l.others l.made.items l.world l.left
