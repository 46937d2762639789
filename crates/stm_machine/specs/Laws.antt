-- The laws of machines: what finishing a run comes to, whatever is looked up later.
use Rattle.std.specs.Prelude.{◌≡◌, List, ℕ, None, Some, IsSome}
use Rattle.stm_program.specs.Syntax.{Block}
use Rattle.stm_steps.specs.declared.run.Run.{Run}
use Rattle.stm_steps.specs.declared.run.Answered.TheVariants.{Ended, Wants}
use Rattle.stm_steps.specs.Answer.{Lookup, AgreesWith}
use Rattle.stm_steps.specs.Meaning.{answered, run_over}
use Rattle.stm_machine.specs.State.{MachineState, started, key_asked, run_at}
use Rattle.stm_machine.specs.Finish.{finish}
use Rattle.stm_machine.specs.Steps.{step_of, Stands}

-- Finishing comes to the same from both states, over each look-up that knows what this one knows.
abbrev pub FinishAlike : Lookup → MachineState → MachineState → Type 0
FinishAlike look m n = (whole : Lookup) → AgreesWith look whole → finish whole n ≡ finish whole m

-- A machine at the start of a program finishes as the program's run does.
abbrev pub StartsAtTheProgram : Type 0
StartsAtTheProgram = (look : Lookup) (program : Block) → answered (finish look (started program)) ≡ run_over look program

-- Each step keeps what finishing comes to.
abbrev pub StepsFinishAlike : Type 0
StepsFinishAlike = (look : Lookup) (m n : MachineState) → step_of look m ≡ Some n → FinishAlike look m n

-- Where no step is made, the machine stands.
abbrev pub NoStepStands : Type 0
NoStepStands = (look : Lookup) (m : MachineState) → step_of look m ≡ None → Stands look m

-- A machine that stands at a key wants the key; one that stands at none has its run.
abbrev pub StandingAtAKeyWantsIt : Type 0
StandingAtAKeyWantsIt =
    (look : Lookup) (m : MachineState) (key : List ℕ) → Stands look m → key_asked m.focus ≡ Some key → answered (finish look m) ≡ Wants key m.session.trace

abbrev pub StandingAtNoKeyHasRun : Type 0
StandingAtNoKeyHasRun = (look : Lookup) (m : MachineState) → Stands look m → key_asked m.focus ≡ None → IsSome (run_at m)

-- That run is what finishing comes to.
abbrev pub EndedMachinesHaveRun : Type 0
EndedMachinesHaveRun = (look : Lookup) (m : MachineState) (run : Run) → run_at m ≡ Some run → answered (finish look m) ≡ Ended run
