use Rattle.stm_serial_search.proofs.Comparisons.{StartedSoFar}
use Rattle.stm_serial_search.proofs.comparing.programs_started.Given as goal

abbrev pub invariant-loop-event : goal.invariant-loop-event
invariant-loop-event l = StartedSoFar l.programs.items l.event-index l.events
