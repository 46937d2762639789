-- What contracts see of a machine: where it stands, the parts that wait, innermost first, and what the run has come to.
use Rattle.std.specs.Prelude.{List, [], ◌∷◌, ℕ, Option, None, Some}
use Rattle.stm_program.specs.Syntax.{Block}
use Rattle.stm_steps.specs.declared.run.Run.{Run}
use Rattle.stm_steps.specs.Session.{Session, fresh}
use Rattle.stm_steps.specs.Steps.{run_of}
use Rattle.stm_machine.specs.declared.focus.Focus.{Focus}
use Rattle.stm_machine.specs.declared.focus.Focus.TheVariants.{Evaluate, Test, Get, Rev, Give, Ended}
use Rattle.stm_machine.specs.declared.focus.Item.TheVariants.{Nothing}
use Rattle.stm_machine.specs.declared.frame.Frame.{Frame}
use Rattle.stm_machine.specs.declared.frame.Frame.TheVariants.{Next}
use Rattle.stm_machine.specs.declared.frame.NextFrame.TheVariants.{Rest}

pub record MachineState : Type 0 where
  pub focus : Focus
  pub frames : List Frame
  pub session : Session

abbrev pub state_of : Focus → List Frame → Session → MachineState
state_of focus frames s = record { focus = focus; frames = frames; session = s }

-- a machine at the start of a program: its block waits for nothing
abbrev pub started : Block → MachineState
started program = state_of (Give Nothing) (Next (Rest program) ∷ []) fresh

-- the key that a machine asks for
abbrev pub key_asked : Focus → Option (List ℕ)
key_asked (Evaluate e) = None
key_asked (Test c) = None
key_asked (Get key) = Some key
key_asked (Rev key) = Some key
key_asked (Give item) = None
key_asked (Ended end) = None

-- the run of a machine that stands at its run's end
abbrev pub run_from : Focus → Session → Option Run
run_from (Evaluate e) s = None
run_from (Test c) s = None
run_from (Get key) s = None
run_from (Rev key) s = None
run_from (Give item) s = None
run_from (Ended end) s = Some (run_of end s)

abbrev pub run_at : MachineState → Option Run
run_at m = run_from m.focus m.session
