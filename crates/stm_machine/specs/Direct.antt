-- What is run at once, since it reads no key: an expression, or the first statement of a block whose turn it is.
use Rattle.std.specs.Prelude.{◌≡◌, ◌⊎◌, Bool, true, false, List, ◌∷◌, None, Some}
use Rattle.stm_program.specs.Syntax.{Expression, Statement, Block}
use Rattle.stm_steps.specs.declared.value.Value.{Value}
use Rattle.stm_steps.specs.Answer.{Lookup}
use Rattle.stm_steps.specs.Session.{Session}
use Rattle.stm_steps.specs.Outcome.{Gives}
use Rattle.stm_steps.specs.Meaning.{evaluate, run_statement}
use Rattle.stm_machine.specs.declared.focus.Item.TheVariants.{Nothing}
use Rattle.stm_machine.specs.declared.focus.Focus.{Focus}
use Rattle.stm_machine.specs.declared.focus.Focus.TheVariants.{Evaluate, Test, Get, Rev, Give, Ended}
use Rattle.stm_machine.specs.declared.frame.Frame.{Frame}
use Rattle.stm_machine.specs.declared.frame.Frame.TheVariants.{Next}
use Rattle.stm_machine.specs.declared.frame.NextFrame.TheVariants.{Rest}
use Rattle.stm_machine.specs.Parts.{first_of, behind_first}
use Rattle.stm_machine.specs.State.{MachineState, state_of}
use Rattle.stm_machine.specs.Finish.{finish_from}
use Rattle.stm_machine.specs.Steps.{step_of}

-- ---- expressions

-- the expression gives this whatever is looked up, and leaves what the run has come to
abbrev pub GivesAtOnce : Expression → Session → Value → Type 0
GivesAtOnce e s x = (look : Lookup) → evaluate look e s ≡ Gives x s

-- a machine that stands there is at the start of no expression and no condition
abbrev pub IsPast : Focus → Type 0
IsPast (Evaluate e) = ⊥
IsPast (Test c) = ⊥
IsPast (Get key) = Unit {0}
IsPast (Rev key) = Unit {0}
IsPast (Give item) = Unit {0}
IsPast (Ended end) = Unit {0}

-- A machine at the start of the expression may as well stand there: finishing comes to the same.
pub record LeadsOn (e : Expression) (s : Session) (focus : Focus) : Type 0 where
  pub alike : (look : Lookup) (frames : List Frame) → finish_from look focus frames s ≡ finish_from look (Evaluate e) frames s
  pub past : IsPast focus

-- ---- statements

-- the statement runs so whatever is looked up
abbrev pub RunsAtOnce : Statement → Session → Session → Type 0
RunsAtOnce statement s t = (look : Lookup) → run_statement look statement s ≡ Gives tt t

abbrev pub RunsOrStays : Bool → Statement → Session → Session → Type 0
RunsOrStays true statement s t = RunsAtOnce statement s t
RunsOrStays false statement s t = t ≡ s

-- the first statement of a block ran at once, and those after it are left
pub record Passes (block : Block) (s : Session) (left : Block) (t : Session) : Type 0 where
  pub first : Statement
  pub is_first : first_of block ≡ Some first
  pub behind : left ≡ behind_first block
  pub runs : RunsAtOnce first s t

abbrev pub PassesOrStays : Bool → Block → Session → Block → Session → Type 0
PassesOrStays true block s left t = Passes block s left t
PassesOrStays false block s left t = (left ≡ block) × (t ≡ s)

-- of a block that waits
pub record PassesIn (before : Frame) (s : Session) (after : Frame) (t : Session) : Type 0 where
  pub block : Block
  pub left : Block
  pub waits : before ≡ Next (Rest block)
  pub remains : after ≡ Next (Rest left)
  pub passes : Passes block s left t

abbrev pub RunsFirst : Bool → Frame → Session → Frame → Session → Type 0
RunsFirst true before s after t = PassesIn before s after t
RunsFirst false before s after t = (after ≡ before) × (t ≡ s)

-- ---- jumps of a machine

pub record JumpsExpression (m n : MachineState) : Type 0 where
  pub expression : Expression
  pub focus : Focus
  pub stands : m.focus ≡ Evaluate expression
  pub leads : LeadsOn expression m.session focus
  pub left : n ≡ state_of focus m.frames m.session

pub record JumpsStatement (m n : MachineState) : Type 0 where
  pub before : Frame
  pub after : Frame
  pub frames : List Frame
  pub stands : m.focus ≡ Give Nothing
  pub waits : m.frames ≡ before ∷ frames
  pub passes : PassesIn before m.session after n.session
  pub left : n ≡ state_of (Give Nothing) (after ∷ frames) n.session

-- a jump, or none was made
abbrev pub JumpsOrStays : Bool → MachineState → MachineState → Type 0
JumpsOrStays true m n = JumpsExpression m n ⊎ JumpsStatement m n
JumpsOrStays false m n = n ≡ m

-- a jump or a step, or there was none to make
abbrev pub GoesOrStands : Lookup → Bool → MachineState → MachineState → Type 0
GoesOrStands look true m n = JumpsOrStays true m n ⊎ (step_of look m ≡ Some n)
GoesOrStands look false m n = (step_of look m ≡ None) × (n ≡ m)
