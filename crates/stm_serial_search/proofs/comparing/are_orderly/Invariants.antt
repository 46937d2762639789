use Rattle.stm_serial.specs.Asked.{is_orderly}
use Rattle.stm_serial_search.proofs.Comparisons.{SoFar}
use Rattle.stm_serial_search.proofs.comparing.are_orderly.Given as goal

abbrev pub invariant-loop-event : goal.invariant-loop-event
invariant-loop-event l = SoFar is_orderly l.event-index l.events
