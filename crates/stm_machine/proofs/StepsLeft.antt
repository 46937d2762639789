-- How many steps a machine has left, at most: a number that each step makes smaller. A node of an expression or a condition counts three, a part
-- that waits counts one besides what it still has to do, and a loop counts its limit times its body.
use Rattle.std.proofs.Common.{◌≡◌, ℕ, suc, ◌+◌, ◌*◌, ◌<◌, ◌≤◌, List, [], ◌∷◌, inl, inr, arith}
use Rattle.std.specs.Prelude.{◌⊎◌, Result, Ok, Some}
use Rattle.std.proofs.Math.Nat.{mul-le-mul_left}
use Rattle.std.proofs.lemmas.Bool.{leb-true, Decides.nat_tests}
use Rattle.stm_program.specs.Syntax as tree
use Rattle.stm_program.specs.Syntax.{Expression, Condition, Statement, Block, End, Then}
use Rattle.stm_program.specs.Size.{expression_nodes, condition_nodes}
use Rattle.stm_history.specs.declared.change.Change.{Change}
use Rattle.stm_steps.specs.declared.value.Value.{Value}
use Rattle.stm_steps.specs.declared.fault.Fault.{Fault}
use Rattle.stm_steps.specs.Answer.{Lookup}
use Rattle.stm_steps.specs.Values.{turns_of}
use Rattle.stm_steps.specs.Session.{Session}
use Rattle.stm_steps.specs.Outcome.{Outcome}
use Rattle.stm_machine.specs.declared.focus.Item.{Item}
use Rattle.stm_machine.specs.declared.focus.Focus.{Focus}
use Rattle.stm_machine.specs.declared.focus.Focus.TheVariants.{Evaluate, Test, Get, Rev, Give, Ended}
use Rattle.stm_machine.specs.declared.frame.Frame.{Frame}
use Rattle.stm_machine.specs.declared.frame.Frame.TheVariants.{Operand, Comparison, Argument, Truth, Next}
use Rattle.stm_machine.specs.declared.frame.OperandFrame.{OperandFrame}
use Rattle.stm_machine.specs.declared.frame.OperandFrame.TheVariants.{Get as GetFrame, Rev as RevFrame, ArithmeticLeft, ArithmeticRight, CatLeft}
use Rattle.stm_machine.specs.declared.frame.ComparisonFrame.{ComparisonFrame}
use Rattle.stm_machine.specs.declared.frame.ComparisonFrame.TheVariants.{EqualLeft, EqualRight, LessLeft, LessRight}
use Rattle.stm_machine.specs.declared.frame.ArgumentFrame.{ArgumentFrame}
use Rattle.stm_machine.specs.declared.frame.ArgumentFrame.TheVariants.{PutKey, For}
use Rattle.stm_machine.specs.declared.frame.TruthFrame.{TruthFrame}
use Rattle.stm_machine.specs.declared.frame.TruthFrame.TheVariants.{Not, And, Or, If}
use Rattle.stm_machine.specs.declared.frame.NextFrame.{NextFrame}
use Rattle.stm_machine.specs.declared.frame.NextFrame.TheVariants.{Rest, Loop}
use Rattle.stm_machine.specs.Moves.{Move, goes, at_value, at_rev, frames_after, begin_expression, begin_condition}
use Rattle.stm_machine.specs.Parts.{first_of, behind_first, turns_from}
use Rattle.stm_machine.specs.Direct.{IsPast, JumpsExpression, JumpsStatement}
use Rattle.stm_machine.specs.State.{MachineState}
use Rattle.stm_machine.specs.Moves.{begin_statement, begin_block, take_operand, take_compared, take_truth, write_moved, begin_loop, take_argument}
use Rattle.stm_machine.specs.Moves.{turn_moved, take_turn, take_nothing, take_item}
use Rattle.stm_machine.specs.Steps.{read_step, give_step, step_from, step_of}

-- ---- what is left

-- for each turn its own step, that of its loop and those of its body
abbrev loop_steps : ℕ → ℕ → ℕ
loop_steps body turns = (body + 2) * turns

abbrev mutual
  statement_steps : Statement → ℕ
  statement_steps (tree.Set v e) = 3 + 3 * expression_nodes e
  statement_steps (tree.Put e f lease) = 3 + 3 * expression_nodes e + 3 * expression_nodes f
  statement_steps (tree.Del e) = 3 + 3 * expression_nodes e
  statement_steps (tree.If c then_block else_block) = 3 + 3 * condition_nodes c + block_steps then_block + block_steps else_block
  statement_steps (tree.For v e limit body) = 3 + 3 * expression_nodes e + (block_steps body + 2) * limit
  statement_steps (tree.Emit e) = 3 + 3 * expression_nodes e
  statement_steps (tree.Abort e) = 3 + 3 * expression_nodes e

  block_steps : Block → ℕ
  block_steps End = 0
  block_steps (Then s b) = statement_steps s + block_steps b

abbrev operand_steps : OperandFrame → ℕ
operand_steps GetFrame = 1
operand_steps RevFrame = 1
operand_steps (ArithmeticLeft operator f) = 3 * expression_nodes f
operand_steps (ArithmeticRight operator x) = 0
operand_steps (CatLeft f) = 3 * expression_nodes f
operand_steps _ = 0

abbrev compared_steps : ComparisonFrame → ℕ
compared_steps (EqualLeft f) = 3 * expression_nodes f
compared_steps (EqualRight x) = 0
compared_steps (LessLeft f) = 3 * expression_nodes f
compared_steps (LessRight x) = 0

abbrev argument_steps : ArgumentFrame → ℕ
argument_steps (PutKey f lease) = 3 * expression_nodes f
argument_steps (For v limit body) = 1 + loop_steps (block_steps body) limit
argument_steps _ = 0

abbrev truth_steps : TruthFrame → ℕ
truth_steps Not = 0
truth_steps (And d) = 3 * condition_nodes d
truth_steps (Or d) = 3 * condition_nodes d
truth_steps (If then_block else_block) = 1 + block_steps then_block + block_steps else_block

abbrev next_steps : NextFrame → ℕ
next_steps (Rest block) = block_steps block
next_steps (Loop v body turns) = loop_steps (block_steps body) turns.left

abbrev frame_steps : Frame → ℕ
frame_steps (Operand f) = operand_steps f
frame_steps (Comparison f) = compared_steps f
frame_steps (Argument f) = argument_steps f
frame_steps (Truth f) = truth_steps f
frame_steps (Next f) = next_steps f

abbrev stack_steps : List Frame → ℕ
stack_steps [] = 0
stack_steps (f ∷ frames) = 1 + frame_steps f + stack_steps frames

abbrev focus_steps : Focus → ℕ
focus_steps (Evaluate e) = 3 * expression_nodes e
focus_steps (Test c) = 3 * condition_nodes c
focus_steps (Get key) = 2
focus_steps (Rev key) = 2
focus_steps (Give item) = 1
focus_steps (Ended end) = 0

abbrev pub steps_left : MachineState → ℕ
steps_left m = focus_steps m.focus + stack_steps m.frames

-- what is left after a move
abbrev move_left : Move → List Frame → ℕ
move_left m frames = focus_steps m.focus + stack_steps (frames_after m frames)

-- ---- the start of an expression, a condition, a statement, a block

condition_falls : (c : Condition) (frames : List Frame) → move_left (begin_condition c) frames < 3 * condition_nodes c + stack_steps frames
unfolding begin_condition
condition_falls c frames = grind (arith, nat_tests)

block_falls : (b : Block) (frames : List Frame) → move_left (begin_block b) frames < 2 + block_steps b + stack_steps frames
unfolding begin_statement begin_block
block_falls b frames = grind (arith, nat_tests)

-- ---- what was waited for

rev_falls : (r : Result (List ℕ) Fault) (frames : List Frame) → move_left (goes (at_rev r)) frames < 3 + stack_steps frames
rev_falls r frames = grind (arith, nat_tests)

value_falls : (r : Result Value Fault) (frames : List Frame) → move_left (goes (at_value r)) frames < 2 + stack_steps frames
value_falls r frames = grind (arith, nat_tests)

write_falls : (r : Result Change Fault) (s : Session) (frames : List Frame) → move_left (write_moved r s).move frames < 2 + stack_steps frames
write_falls r s frames = grind (arith, nat_tests)

operand_falls : (f : OperandFrame) (x : Value) (frames : List Frame) → move_left (take_operand f x) frames < 2 + operand_steps f + stack_steps frames
unfolding take_operand
operand_falls f x frames = grind (arith, nat_tests, rev_falls, value_falls)

compared_falls : (f : ComparisonFrame) (x : Value) (frames : List Frame) → move_left (take_compared f x) frames < 2 + compared_steps f + stack_steps frames
unfolding take_compared
compared_falls f x frames = grind (arith, nat_tests)

-- ---- loops

turns_within : (x : Value) (limit n : ℕ) → turns_of x limit ≡ Ok n → n ≤ limit
unfolding turns_of
turns_within x limit n is = grind (arith, nat_tests, leb-true)

loop_falls : (v : ℕ) (body : Block) (limit : ℕ) (r : Result ℕ Fault) (frames : List Frame) → ((n : ℕ) → r ≡ Ok n → n ≤ limit) →
    move_left (begin_loop v body r) frames < 3 + loop_steps (block_steps body) limit + stack_steps frames
loop_falls v body limit r frames within = grind (arith, nat_tests, mul-le-mul_left, block_steps)

argument_falls : (f : ArgumentFrame) (x : Value) (s : Session) (frames : List Frame) →
    move_left (take_argument f x s).move frames < 2 + argument_steps f + stack_steps frames
unfolding take_argument
argument_falls f y s frames = grind (arith, nat_tests, write_falls, loop_falls, turns_within)

turn_moved-falls : (v : ℕ) (body : Block) (i left : ℕ) (o : Outcome (Unit {0})) (frames : List Frame) →
    move_left (turn_moved v body (turns_from (suc i) left) o).move frames < 2 + loop_steps (block_steps body) (suc left) + stack_steps frames
turn_moved-falls v body i left o frames = grind (arith, nat_tests)

turn_falls : (v : ℕ) (body : Block) (i left : ℕ) (s : Session) (frames : List Frame) →
    move_left (take_turn v body i left s).move frames < 2 + loop_steps (block_steps body) left + stack_steps frames
unfolding take_turn
turn_falls v body i left s frames = grind (arith, nat_tests, turn_moved-falls)

next_falls : (f : NextFrame) (s : Session) (frames : List Frame) → move_left (take_nothing f s).move frames < 2 + next_steps f + stack_steps frames
unfolding take_nothing
next_falls f s frames = grind (arith, nat_tests, block_falls, turn_falls)

-- ---- each step

item_falls : (f : Frame) (item : Item) (s : Session) (frames : List Frame) → move_left (take_item f item s).move frames < 2 + frame_steps f + stack_steps frames
unfolding take_truth
item_falls f item s frames = grind (arith, nat_tests, operand_falls, compared_falls, argument_falls, next_falls)

give_falls : (frames : List Frame) (item : Item) (s : Session) → steps_left (give_step frames item s) < 1 + stack_steps frames
give_falls frames item s = grind (arith, nat_tests, item_falls)

falls_to : (m n : MachineState) (k : ℕ) → Some m ≡ Some n → steps_left m < k → steps_left n < k
falls_to m n k is below = grind (arith, nat_tests)

read_falls : (frames : List Frame) (o : Outcome Value) (n : MachineState) → read_step frames o ≡ Some n → steps_left n < 2 + stack_steps frames
read_falls frames o n is = grind (arith, nat_tests, falls_to)

step_falls : (look : Lookup) (focus : Focus) (frames : List Frame) (s : Session) (n : MachineState) → step_from look focus frames s ≡ Some n →
    steps_left n < focus_steps focus + stack_steps frames
unfolding begin_expression
step_falls look focus frames s n is = grind (arith, nat_tests, falls_to, condition_falls, read_falls, give_falls)

-- Each step leaves fewer.
pub steps_fall : (look : Lookup) (m n : MachineState) → step_of look m ≡ Some n → steps_left n < steps_left m
steps_fall look m n is = step_falls look m.focus m.frames m.session n is

-- ---- jumps

some_nodes : (e : Expression) → 1 ≤ expression_nodes e
some_nodes (tree.Text t) = omega arith
some_nodes _ = omega arith

some_steps : (statement : Statement) → 1 ≤ statement_steps statement
some_steps (tree.Set v e) = omega arith
some_steps _ = omega arith

few_steps : (focus : Focus) → IsPast focus → focus_steps focus ≤ 2
few_steps focus past = grind (arith, nat_tests)

fewer_behind : (block left : Block) (first : Statement) → first_of block ≡ Some first → left ≡ behind_first block → block_steps left < block_steps block
fewer_behind block left first is_first behind = grind (arith, nat_tests, block_steps, some_steps)

expression_jumps : (m n : MachineState) → JumpsExpression m n → steps_left n < steps_left m
expression_jumps m n j = grind (arith, nat_tests, few_steps, some_nodes)

statement_jumps : (m n : MachineState) → JumpsStatement m n → steps_left n < steps_left m
statement_jumps m n j = grind (arith, nat_tests, block_steps, fewer_behind)

-- Each jump leaves fewer, too.
pub jumps_fall : (m n : MachineState) → JumpsExpression m n ⊎ JumpsStatement m n → steps_left n < steps_left m
jumps_fall m n (inl j) = expression_jumps m n j
jumps_fall m n (inr j) = statement_jumps m n j
