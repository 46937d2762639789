use Rattle.stm_machine.specs.Laws.{FinishAlike}
use Rattle.stm_machine.proofs.StepsLeft.{steps_left}
use Rattle.stm_machine.proofs.machine.Machine.run.Given as goal

-- finishing comes to the same as from where the call began
abbrev pub invariant-steps : goal.invariant-steps
invariant-steps g l = FinishAlike (g.L.Lookup.answers l.lookup) l.fn.self l.self

abbrev pub decreases-steps : goal.decreases-steps
decreases-steps g l = steps_left l.self
