-- A machine that goes on, one step after another.
use Rattle.std.proofs.Common.{◌≡◌, ◌∙◌, ap, ◌<◌, Bool, true, false, arith}
use Rattle.std.proofs.lemmas.Bool.Decides.{nat_tests}
use Rattle.stm_steps.specs.Answer.{Lookup}
use Rattle.stm_machine.specs.State.{MachineState}
use Rattle.stm_machine.specs.Finish.{finish}
use Rattle.stm_machine.specs.Steps.{Stands}
use Rattle.stm_machine.specs.Direct.{GoesOrStands}
use Rattle.stm_machine.specs.Laws.{FinishAlike}
use Rattle.stm_machine.proofs.StepLemmas.{steps_finish_alike, no_step_stands}
use Rattle.stm_machine.proofs.StepsLeft.{steps_left, steps_fall, jumps_fall}
use Rattle.stm_machine.proofs.JumpLemmas.{jumps_alike}

-- the same state
pub still_alike : (look : Lookup) (m n p : MachineState) → FinishAlike look m n → p ≡ n → FinishAlike look m p
still_alike look m n p alike same whole agree = ap (finish whole) same ∙ alike whole agree

-- a jump or a step more, or none
pub go_alike : (look : Lookup) (m n p : MachineState) (made : Bool) → FinishAlike look m n → GoesOrStands look made n p → FinishAlike look m p
go_alike look m n p made alike stands whole agree = grind (arith, nat_tests, jumps_alike, steps_finish_alike, still_alike)

pub go_falls : (look : Lookup) (n p : MachineState) (made : Bool) → made ≡ true → GoesOrStands look made n p → steps_left p < steps_left n
go_falls look n p made h5 stands = grind (arith, nat_tests, jumps_fall, steps_fall)

-- the machine stands where it made neither
pub stands_after : (look : Lookup) (n p : MachineState) (made : Bool) → made ≡ false → GoesOrStands look made n p → Stands look p
stands_after look n p made none_made goes = grind (arith, nat_tests, no_step_stands)
