-- What is left of a run: where a machine stands, and the parts that wait, innermost first. Each part means what, by the
-- meaning of programs, comes after that which the part waits for.
use Rattle.std.specs.Prelude.{Bool, not, List, [], ◌∷◌}
use Rattle.stm_steps.specs.declared.value.Value.{Value}
use Rattle.stm_steps.specs.declared.stop.Stop.TheVariants.{Aborted, Faulted}
use Rattle.stm_steps.specs.declared.run.End.{End}
use Rattle.stm_steps.specs.declared.run.End.TheVariants.{Done, Aborted as EndAborted, Faulted as EndFaulted}
use Rattle.stm_steps.specs.Answer.{Lookup}
use Rattle.stm_steps.specs.Values.{text_in, key_in, arithmetic, concatenated, text_of, num_of, equal, less, put_of, del_of, turns_of}
use Rattle.stm_steps.specs.Session.{Session, with_variable, with_output, with_write}
use Rattle.stm_steps.specs.Outcome.{Outcome, Gives, Stops, and_then, given}
use Rattle.stm_steps.specs.Steps.{get_key, rev_key}
use Rattle.stm_steps.specs.Meaning.{evaluate, holds, unless_false, unless_true, branch, repeat, aborts, run_block}
use Rattle.stm_machine.specs.declared.focus.Item.{Item}
use Rattle.stm_machine.specs.declared.focus.Item.TheVariants.{Value as ValueItem, Truth as TruthItem, Nothing}
use Rattle.stm_machine.specs.declared.focus.Focus.{Focus}
use Rattle.stm_machine.specs.declared.focus.Focus.TheVariants.{Evaluate, Test, Get, Rev, Give, Ended}
use Rattle.stm_machine.specs.declared.frame.Frame.{Frame}
use Rattle.stm_machine.specs.declared.frame.Frame.TheVariants.{Operand, Comparison, Argument, Truth, Next}
use Rattle.stm_machine.specs.declared.frame.OperandFrame.{OperandFrame}
use Rattle.stm_machine.specs.declared.frame.OperandFrame.TheVariants.{Get as GetFrame, Rev as RevFrame, ArithmeticLeft, ArithmeticRight}
use Rattle.stm_machine.specs.declared.frame.OperandFrame.TheVariants.{CatLeft, CatRight, TextOf, NumOf}
use Rattle.stm_machine.specs.declared.frame.ComparisonFrame.{ComparisonFrame}
use Rattle.stm_machine.specs.declared.frame.ComparisonFrame.TheVariants.{EqualLeft, EqualRight, LessLeft, LessRight}
use Rattle.stm_machine.specs.declared.frame.ArgumentFrame.{ArgumentFrame}
use Rattle.stm_machine.specs.declared.frame.ArgumentFrame.TheVariants.{Set, PutKey, PutValue, Del, For, Emit, Abort}
use Rattle.stm_machine.specs.declared.frame.TruthFrame.{TruthFrame}
use Rattle.stm_machine.specs.declared.frame.TruthFrame.TheVariants.{Not, And, Or, If}
use Rattle.stm_machine.specs.declared.frame.NextFrame.{NextFrame}
use Rattle.stm_machine.specs.declared.frame.NextFrame.TheVariants.{Rest, Loop}
use Rattle.stm_machine.specs.State.{MachineState}

-- how a run goes on from a value, a truth or nothing
abbrev pub Onward : Type 0
Onward = Item → Session → Outcome (Unit {0})

abbrev pub on_value : Onward → Outcome Value → Outcome (Unit {0})
on_value onward o = and_then o (λ x. onward (ValueItem x))

abbrev pub on_truth : Onward → Outcome Bool → Outcome (Unit {0})
on_truth onward o = and_then o (λ b. onward (TruthItem b))

abbrev pub on_nothing : Onward → Outcome (Unit {0}) → Outcome (Unit {0})
on_nothing onward o = and_then o (λ _. onward Nothing)

-- ---- the parts that wait for a value

-- of an expression
abbrev pub with_operand : Lookup → OperandFrame → Value → Session → Outcome Value
with_operand look GetFrame x s = and_then (given (key_in x) s) (get_key look)
with_operand look RevFrame x s = and_then (given (key_in x) s) (rev_key look)
with_operand look (ArithmeticLeft operator f) x s = and_then (evaluate look f s) (λ y. given (arithmetic operator x y))
with_operand look (ArithmeticRight operator x) y s = given (arithmetic operator x y) s
with_operand look (CatLeft f) x s = and_then (evaluate look f s) (λ y. given (concatenated x y))
with_operand look (CatRight x) y s = given (concatenated x y) s
with_operand look TextOf x s = given (text_of x) s
with_operand look NumOf x s = given (num_of x) s

-- of a condition
abbrev pub with_compared : Lookup → ComparisonFrame → Value → Session → Outcome Bool
with_compared look (EqualLeft f) x s = and_then (evaluate look f s) (λ y. given (equal x y))
with_compared look (EqualRight x) y s = given (equal x y) s
with_compared look (LessLeft f) x s = and_then (evaluate look f s) (λ y. given (less x y))
with_compared look (LessRight x) y s = given (less x y) s

-- of a statement
abbrev pub with_argument : Lookup → ArgumentFrame → Value → Session → Outcome (Unit {0})
with_argument look (Set v) x s = Gives tt (with_variable v x s)
with_argument look (PutKey f lease) x s =
    and_then (evaluate look f s) (λ y u. and_then (given (put_of x y lease) u) (λ w r. Gives tt (with_write w r)))
with_argument look (PutValue x lease) y s = and_then (given (put_of x y lease) s) (λ w r. Gives tt (with_write w r))
with_argument look Del x s = and_then (given (del_of x) s) (λ w u. Gives tt (with_write w u))
with_argument look (For v limit body) x s = and_then (given (turns_of x limit) s) (λ n. repeat v (run_block look body) n 0)
with_argument look Emit x s = Gives tt (with_output x s)
with_argument look Abort x s = and_then (given (text_in x) s) aborts

-- ---- the parts that wait for a truth

abbrev pub with_truth : Lookup → TruthFrame → Onward → Bool → Session → Outcome (Unit {0})
with_truth look Not onward b s = on_truth onward (Gives (not b) s)
with_truth look (And d) onward b s = on_truth onward (unless_false (holds look d) b s)
with_truth look (Or d) onward b s = on_truth onward (unless_true (holds look d) b s)
with_truth look (If then_block else_block) onward b s = on_nothing onward (branch (run_block look then_block) (run_block look else_block) b s)

-- ---- the parts that wait for nothing: the statements that are left of a block, and the turns that are left of a loop

abbrev pub with_nothing : Lookup → NextFrame → Session → Outcome (Unit {0})
with_nothing look (Rest block) s = run_block look block s
with_nothing look (Loop v body turns) s = repeat v (run_block look body) turns.left turns.next s

-- ---- a whole stack

-- One part, and what waits for it. A part that is given what it does not wait for is passed over; no machine comes to such a stack.
abbrev pub behind : Lookup → Frame → Onward → Onward
behind look (Operand f) onward (ValueItem x) s = on_value onward (with_operand look f x s)
behind look (Comparison f) onward (ValueItem x) s = on_truth onward (with_compared look f x s)
behind look (Argument f) onward (ValueItem x) s = on_nothing onward (with_argument look f x s)
behind look (Truth f) onward (TruthItem b) s = with_truth look f onward b s
behind look (Next f) onward Nothing s = on_nothing onward (with_nothing look f s)
behind look f onward item s = onward Nothing s

abbrev pub onward_of : Lookup → List Frame → Onward
onward_of look [] item s = Gives tt s
onward_of look (f ∷ fs) item s = behind look f (onward_of look fs) item s

-- a run that came to this end
abbrev pub ended : End → Session → Outcome (Unit {0})
ended Done s = Gives tt s
ended (EndAborted t) s = Stops (Aborted t) s
ended (EndFaulted fault) s = Stops (Faulted fault) s

-- what finishing a run comes to, from where a machine stands
abbrev pub finish_from : Lookup → Focus → List Frame → Session → Outcome (Unit {0})
finish_from look (Evaluate e) frames s = on_value (onward_of look frames) (evaluate look e s)
finish_from look (Test c) frames s = on_truth (onward_of look frames) (holds look c s)
finish_from look (Get key) frames s = on_value (onward_of look frames) (get_key look key s)
finish_from look (Rev key) frames s = on_value (onward_of look frames) (rev_key look key s)
finish_from look (Give item) frames s = onward_of look frames item s
finish_from look (Ended end) frames s = ended end s

abbrev pub finish : Lookup → MachineState → Outcome (Unit {0})
finish look m = finish_from look m.focus m.frames m.session
