-- One step of a machine: its next state, or none where it stands. It stands where its run has ended, and at a key that the look-up does not know.
use Rattle.std.specs.Prelude.{◌≡◌, List, [], ◌∷◌, Option, None, Some}
use Rattle.stm_steps.specs.declared.value.Value.{Value}
use Rattle.stm_steps.specs.declared.stop.Stop.TheVariants.{Wants}
use Rattle.stm_steps.specs.declared.run.End.TheVariants.{Done}
use Rattle.stm_steps.specs.Answer.{Lookup}
use Rattle.stm_steps.specs.Session.{Session}
use Rattle.stm_steps.specs.Outcome.{Outcome, Gives, Stops}
use Rattle.stm_steps.specs.Steps.{get_key, rev_key}
use Rattle.stm_machine.specs.declared.focus.Item.{Item}
use Rattle.stm_machine.specs.declared.focus.Item.TheVariants.{Value as ValueItem}
use Rattle.stm_machine.specs.declared.focus.Focus.{Focus}
use Rattle.stm_machine.specs.declared.focus.Focus.TheVariants.{Evaluate, Test, Get, Rev, Give, Ended}
use Rattle.stm_machine.specs.declared.frame.Frame.{Frame}
use Rattle.stm_machine.specs.State.{MachineState, state_of}
use Rattle.stm_machine.specs.Moves.{Move, Moved, frames_after, begin_expression, begin_condition, take_item}

-- the state after a move, where these parts wait below it
abbrev pub state_after : Move → List Frame → Session → MachineState
state_after m frames s = state_of m.focus (frames_after m frames) s

-- a read that found something goes on with it
abbrev pub read_step : List Frame → Outcome Value → Option MachineState
read_step frames (Gives x s) = Some (state_of (Give (ValueItem x)) frames s)
read_step frames (Stops stop s) = None

abbrev pub after_taking : List Frame → Moved → MachineState
after_taking frames m = state_after m.move frames m.session

-- the innermost part takes what it waited for; where no part waits, the run is done
abbrev pub give_step : List Frame → Item → Session → MachineState
give_step [] item s = state_of (Ended Done) [] s
give_step (f ∷ frames) item s = after_taking frames (take_item f item s)

abbrev pub step_from : Lookup → Focus → List Frame → Session → Option MachineState
step_from look (Evaluate e) frames s = Some (state_after (begin_expression e s) frames s)
step_from look (Test c) frames s = Some (state_after (begin_condition c) frames s)
step_from look (Get key) frames s = read_step frames (get_key look key s)
step_from look (Rev key) frames s = read_step frames (rev_key look key s)
step_from look (Give item) frames s = Some (give_step frames item s)
step_from look (Ended end) frames s = None

abbrev pub step_of : Lookup → MachineState → Option MachineState
step_of look m = step_from look m.focus m.frames m.session

-- the machine stands: its run has ended, or the look-up knows nothing of the key that it asks for
abbrev pub StandsAt : Lookup → Focus → Session → Type 0
StandsAt look (Evaluate e) s = ⊥
StandsAt look (Test c) s = ⊥
StandsAt look (Get key) s = get_key look key s ≡ Stops (Wants key) s
StandsAt look (Rev key) s = rev_key look key s ≡ Stops (Wants key) s
StandsAt look (Give item) s = ⊥
StandsAt look (Ended end) s = Unit {0}

abbrev pub Stands : Lookup → MachineState → Type 0
Stands look m = StandsAt look m.focus m.session
