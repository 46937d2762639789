-- The moves of a machine, each a value: the parts that it leaves waiting, and where the machine stands then.
use Rattle.std.specs.Prelude.{◌≡◌, ℕ, suc, zero, Bool, true, false, not, List, ◌∷◌, Option, None, Some, Result, Ok, Err}
use Rattle.stm_program.specs.Syntax as tree
use Rattle.stm_program.specs.Syntax.{Expression, Condition, Statement, Block, End, Then}
use Rattle.stm_steps.specs.declared.value.Value.{Value}
use Rattle.stm_steps.specs.declared.value.Value.TheVariants.{Text, Number}
use Rattle.stm_steps.specs.declared.fault.Fault.{Fault}
use Rattle.stm_history.specs.declared.change.Change.{Change}
use Rattle.stm_steps.specs.declared.stop.Stop.{Stop}
use Rattle.stm_steps.specs.declared.stop.Stop.TheVariants.{Aborted as StopAborted, Faulted as StopFaulted, Wants}
use Rattle.stm_steps.specs.declared.run.End.{End as RunEnd}
use Rattle.stm_steps.specs.declared.run.End.TheVariants.{Done, Aborted, Faulted}
use Rattle.stm_steps.specs.Values.{text_in, key_in, arithmetic, concatenated, text_of, num_of, equal, less, put_of, del_of, turns_of}
use Rattle.stm_steps.specs.Session.{Session, variable_in, with_variable, with_output, with_write}
use Rattle.stm_steps.specs.Outcome.{Outcome, Gives, Stops, begin_turn}
use Rattle.stm_machine.specs.declared.focus.Item.{Item}
use Rattle.stm_machine.specs.declared.focus.Item.TheVariants.{Value as ValueItem, Truth as TruthItem, Nothing}
use Rattle.stm_machine.specs.declared.focus.Focus.{Focus}
use Rattle.stm_machine.specs.declared.focus.Focus.TheVariants.{Evaluate, Test, Get, Rev, Give, Ended}
use Rattle.stm_machine.specs.declared.frame.Frame.{Frame}
use Rattle.stm_machine.specs.declared.frame.Frame.TheVariants.{Operand, Comparison, Argument, Truth, Next}
use Rattle.stm_machine.specs.declared.frame.OperandFrame.{OperandFrame}
use Rattle.stm_machine.specs.declared.frame.OperandFrame.TheVariants.{Get as GetFrame, Rev as RevFrame, ArithmeticLeft, ArithmeticRight}
use Rattle.stm_machine.specs.declared.frame.OperandFrame.TheVariants.{CatLeft, CatRight, TextOf, NumOf}
use Rattle.stm_machine.specs.declared.frame.ComparisonFrame.{ComparisonFrame}
use Rattle.stm_machine.specs.declared.frame.ComparisonFrame.TheVariants.{EqualLeft, EqualRight, LessLeft, LessRight}
use Rattle.stm_machine.specs.declared.frame.ArgumentFrame.{ArgumentFrame}
use Rattle.stm_machine.specs.declared.frame.ArgumentFrame.TheVariants.{Set, PutKey, PutValue, Del, For, Emit, Abort}
use Rattle.stm_machine.specs.declared.frame.TruthFrame.{TruthFrame}
use Rattle.stm_machine.specs.declared.frame.TruthFrame.TheVariants.{Not, And, Or, If}
use Rattle.stm_machine.specs.declared.frame.NextFrame.{NextFrame}
use Rattle.stm_machine.specs.declared.frame.NextFrame.TheVariants.{Rest, Loop}
use Rattle.stm_machine.specs.Parts.{TurnsLeft, turns_from}

-- ---- where a machine stands

abbrev pub nothing : Focus
nothing = Give Nothing

-- where the fault of a computation ends the run
abbrev pub at_fault : Fault → Focus
at_fault fault = Ended (Faulted fault)

abbrev pub at_value : Result Value Fault → Focus
at_value (Ok x) = Give (ValueItem x)
at_value (Err fault) = at_fault fault

abbrev pub at_truth : Result Bool Fault → Focus
at_truth (Ok b) = Give (TruthItem b)
at_truth (Err fault) = at_fault fault

abbrev pub at_get : Result (List ℕ) Fault → Focus
at_get (Ok key) = Get key
at_get (Err fault) = at_fault fault

abbrev pub at_rev : Result (List ℕ) Fault → Focus
at_rev (Ok key) = Rev key
at_rev (Err fault) = at_fault fault

abbrev pub at_abort : Result (List ℕ) Fault → Focus
at_abort (Ok t) = Ended (Aborted t)
at_abort (Err fault) = at_fault fault

-- ---- moves

-- what a machine makes of where it stands: the parts that it leaves waiting, `above` inside `below`, and where it stands then
pub record Move : Type 0 where
  pub below : Option Frame
  pub above : Option Frame
  pub focus : Focus

-- the machine stands there, and no further part waits
abbrev pub goes : Focus → Move
goes focus = record { below = None; above = None; focus = focus }

-- one more part waits
abbrev pub waits : Frame → Focus → Move
waits frame focus = record { below = None; above = Some frame; focus = focus }

-- two more parts wait, the second inside the first
abbrev pub waits_in : Frame → Frame → Focus → Move
waits_in below above focus = record { below = Some below; above = Some above; focus = focus }

abbrev pub with_frame : Option Frame → List Frame → List Frame
with_frame None frames = frames
with_frame (Some f) frames = f ∷ frames

-- the parts that wait after a move
abbrev pub frames_after : Move → List Frame → List Frame
frames_after m frames = with_frame m.above (with_frame m.below frames)

-- A move is made: the machine stands where it leads, and the parts that it leaves wait inside those before.
pub record IsMade (m : Move) (before : List Frame) (focus : Focus) (after : List Frame) : Type 0 where
  pub stands : focus ≡ m.focus
  pub waiting : after ≡ frames_after m before

-- ---- the start of an expression, a condition, a statement, a block

unfoldable pub begin_expression : Expression → Session → Move
begin_expression (tree.Text t) s = goes (Give (ValueItem (Text t)))
begin_expression (tree.Number n) s = goes (Give (ValueItem (Number n)))
begin_expression (tree.Variable v) s = goes (Give (ValueItem (variable_in s v)))
begin_expression (tree.Get e) s = waits (Operand GetFrame) (Evaluate e)
begin_expression (tree.Rev e) s = waits (Operand RevFrame) (Evaluate e)
begin_expression (tree.Arithmetic operator e f) s = waits (Operand (ArithmeticLeft operator f)) (Evaluate e)
begin_expression (tree.Cat e f) s = waits (Operand (CatLeft f)) (Evaluate e)
begin_expression (tree.TextOf e) s = waits (Operand TextOf) (Evaluate e)
begin_expression (tree.NumOf e) s = waits (Operand NumOf) (Evaluate e)

unfoldable pub begin_condition : Condition → Move
begin_condition (tree.Equal e f) = waits (Comparison (EqualLeft f)) (Evaluate e)
begin_condition (tree.Less e f) = waits (Comparison (LessLeft f)) (Evaluate e)
begin_condition (tree.Not c) = waits (Truth Not) (Test c)
begin_condition (tree.And c d) = waits (Truth (And d)) (Test c)
begin_condition (tree.Or c d) = waits (Truth (Or d)) (Test c)

-- the statements after it wait below
unfoldable pub begin_statement : Statement → Block → Move
begin_statement (tree.Set v e) rest = waits_in (Next (Rest rest)) (Argument (Set v)) (Evaluate e)
begin_statement (tree.Put e f lease) rest = waits_in (Next (Rest rest)) (Argument (PutKey f lease)) (Evaluate e)
begin_statement (tree.Del e) rest = waits_in (Next (Rest rest)) (Argument Del) (Evaluate e)
begin_statement (tree.If c then_block else_block) rest = waits_in (Next (Rest rest)) (Truth (If then_block else_block)) (Test c)
begin_statement (tree.For v e limit body) rest = waits_in (Next (Rest rest)) (Argument (For v limit body)) (Evaluate e)
begin_statement (tree.Emit e) rest = waits_in (Next (Rest rest)) (Argument Emit) (Evaluate e)
begin_statement (tree.Abort e) rest = waits_in (Next (Rest rest)) (Argument Abort) (Evaluate e)

unfoldable pub begin_block : Block → Move
begin_block End = goes nothing
begin_block (Then s rest) = begin_statement s rest

-- ---- what was waited for

unfoldable pub take_operand : OperandFrame → Value → Move
take_operand GetFrame x = goes (at_get (key_in x))
take_operand RevFrame x = goes (at_rev (key_in x))
take_operand (ArithmeticLeft operator f) x = waits (Operand (ArithmeticRight operator x)) (Evaluate f)
take_operand (ArithmeticRight operator x) y = goes (at_value (arithmetic operator x y))
take_operand (CatLeft f) x = waits (Operand (CatRight x)) (Evaluate f)
take_operand (CatRight x) y = goes (at_value (concatenated x y))
take_operand TextOf x = goes (at_value (text_of x))
take_operand NumOf x = goes (at_value (num_of x))

unfoldable pub take_compared : ComparisonFrame → Value → Move
take_compared (EqualLeft f) x = waits (Comparison (EqualRight x)) (Evaluate f)
take_compared (EqualRight x) y = goes (at_truth (equal x y))
take_compared (LessLeft f) x = waits (Comparison (LessRight x)) (Evaluate f)
take_compared (LessRight x) y = goes (at_truth (less x y))

unfoldable pub take_truth : TruthFrame → Bool → Move
take_truth Not b = goes (Give (TruthItem (not b)))
take_truth (And d) true = goes (Test d)
take_truth (And d) false = goes (Give (TruthItem false))
take_truth (Or d) true = goes (Give (TruthItem true))
take_truth (Or d) false = goes (Test d)
take_truth (If then_block else_block) true = waits (Next (Rest then_block)) nothing
take_truth (If then_block else_block) false = waits (Next (Rest else_block)) nothing

-- ---- moves that change what the run has come to

pub record Moved : Type 0 where
  pub move : Move
  pub session : Session

abbrev pub moved : Move → Session → Moved
moved m s = record { move = m; session = s }

-- a write is kept, or its fault ends the run
abbrev pub write_moved : Result Change Fault → Session → Moved
write_moved (Ok w) s = moved (goes nothing) (with_write w s)
write_moved (Err fault) s = moved (goes (at_fault fault)) s

-- the turns of a loop wait, or the fault of its count ends the run
abbrev pub begin_loop : ℕ → Block → Result ℕ Fault → Move
begin_loop v body (Ok n) = waits (Next (Loop v body (turns_from 0 n))) nothing
begin_loop v body (Err fault) = goes (at_fault fault)

unfoldable pub take_argument : ArgumentFrame → Value → Session → Moved
take_argument (Set v) x s = moved (goes nothing) (with_variable v x s)
take_argument (PutKey f lease) x s = moved (waits (Argument (PutValue x lease)) (Evaluate f)) s
take_argument (PutValue x lease) y s = write_moved (put_of x y lease) s
take_argument Del x s = write_moved (del_of x) s
take_argument (For v limit body) x s = moved (begin_loop v body (turns_of x limit)) s
take_argument Emit x s = moved (goes nothing) (with_output x s)
take_argument Abort x s = moved (goes (at_abort (text_in x))) s

-- the end that a stop makes; no turn begins with a key that is wanted
abbrev pub end_of : Stop → RunEnd
end_of (StopAborted t) = Aborted t
end_of (StopFaulted fault) = Faulted fault
end_of (Wants key) = Done

-- a turn that began: its body waits inside the turns after it
abbrev pub turn_moved : ℕ → Block → TurnsLeft → Outcome (Unit {0}) → Moved
turn_moved v body behind (Gives x s) = moved (waits_in (Next (Loop v body behind)) (Next (Rest body)) nothing) s
turn_moved v body behind (Stops stop s) = moved (goes (Ended (end_of stop))) s

unfoldable pub take_turn : ℕ → Block → ℕ → ℕ → Session → Moved
take_turn v body i zero s = moved (goes nothing) s
take_turn v body i (suc left) s = turn_moved v body (turns_from (suc i) left) (begin_turn v i s)

unfoldable pub take_nothing : NextFrame → Session → Moved
take_nothing (Rest block) s = moved (begin_block block) s
take_nothing (Loop v body turns) s = take_turn v body turns.next turns.left s

-- What a part makes of what it waited for. A part that is given something else is passed over.
abbrev pub take_item : Frame → Item → Session → Moved
take_item (Operand f) (ValueItem x) s = moved (take_operand f x) s
take_item (Comparison f) (ValueItem x) s = moved (take_compared f x) s
take_item (Argument f) (ValueItem x) s = take_argument f x s
take_item (Truth f) (TruthItem b) s = moved (take_truth f b) s
take_item (Next f) Nothing s = take_nothing f s
take_item f item s = moved (goes nothing) s
