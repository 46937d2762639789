use Rattle.stm_serial.specs.Serial.{is_foreign}
use Rattle.stm_serial_search.proofs.Comparisons.{SoFar}
use Rattle.stm_serial_search.proofs.comparing.are_foreign.Given as goal

abbrev pub invariant-loop-event : goal.invariant-loop-event
invariant-loop-event l = SoFar is_foreign l.event-index l.events
