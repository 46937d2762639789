-- The move of a part that gets what it waited for: finishing from there comes to the same.
use Rattle.std.proofs.Common.{◌≡◌, ℕ, Bool, List, ◌∷◌, arith}
use Rattle.std.specs.Prelude.{if◌then◌else◌, Result}
use Rattle.std.proofs.lemmas.Bool.Decides.{nat_tests}
use Rattle.stm_program.specs.Syntax.{Block}
use Rattle.stm_steps.specs.declared.value.Value.{Value}
use Rattle.stm_steps.specs.declared.fault.Fault.{Fault}
use Rattle.stm_steps.specs.declared.fault.Fault.TheVariants.{TurnLimit}
use Rattle.stm_steps.specs.declared.stop.Stop.TheVariants.{Faulted}
use Rattle.stm_steps.specs.Answer.{Lookup}
use Rattle.stm_steps.specs.Session.{Session}
use Rattle.stm_steps.specs.Outcome.{Outcome, Gives, Stops, and_then, given, begin_turn}
use Rattle.stm_steps.specs.Steps.{get_key, rev_key}
use Rattle.stm_steps.specs.Meaning.{repeat, aborts, run_block}
use Rattle.stm_machine.specs.declared.focus.Item.{Item}
use Rattle.stm_machine.specs.declared.frame.Frame.{Frame}
use Rattle.stm_machine.specs.declared.frame.OperandFrame.{OperandFrame}
use Rattle.stm_machine.specs.declared.frame.ComparisonFrame.{ComparisonFrame}
use Rattle.stm_machine.specs.declared.frame.ArgumentFrame.{ArgumentFrame}
use Rattle.stm_machine.specs.declared.frame.NextFrame.{NextFrame}
use Rattle.stm_machine.specs.Finish.{on_value, on_truth, on_nothing, onward_of, with_operand, with_compared, with_argument, with_nothing}
use Rattle.stm_machine.specs.Moves.{goes, at_get, at_rev, at_abort, Moved, take_operand, take_compared, take_truth, begin_loop}
use Rattle.stm_machine.specs.Moves.{take_argument, take_turn, take_nothing, take_item}
use Rattle.stm_machine.proofs.BeginLemmas.{finish_move, value_then, truth_then, nothing_then, block_begins}

-- finishing after a move that changed what the run has come to
abbrev pub finish_moved : Lookup → Moved → List Frame → Outcome (Unit {0})
finish_moved look m frames = finish_move look m.move frames m.session

module _ (look : Lookup) (frames : List Frame) where
  -- ---- results and faults

  get_given : (r : Result (List ℕ) Fault) (s : Session) →
      on_value (onward_of look frames) (and_then (given r s) (get_key look)) ≡ finish_move look (goes (at_get r)) frames s
  get_given r s = grind (arith, nat_tests)

  rev_given : (r : Result (List ℕ) Fault) (s : Session) →
      on_value (onward_of look frames) (and_then (given r s) (rev_key look)) ≡ finish_move look (goes (at_rev r)) frames s
  rev_given r s = grind (arith, nat_tests)

  loop_given : (v : ℕ) (body : Block) (r : Result ℕ Fault) (s : Session) →
      on_nothing (onward_of look frames) (and_then (given r s) (λ n. repeat v (run_block look body) n 0)) ≡ finish_move look (begin_loop v body r) frames s
  loop_given v body r s = grind (arith, nat_tests)

  abort_given : (r : Result (List ℕ) Fault) (s : Session) →
      on_nothing (onward_of look frames) (and_then (given r s) aborts) ≡ finish_move look (goes (at_abort r)) frames s
  abort_given r s = grind (arith, nat_tests)

  -- ---- the parts that wait for a value

  operand_taken : (f : OperandFrame) (x : Value) (s : Session) →
      on_value (onward_of look frames) (with_operand look f x s) ≡ finish_move look (take_operand f x) frames s
  unfolding take_operand
  operand_taken f x s = grind (arith, nat_tests, get_given, rev_given, value_then)

  compared_taken : (f : ComparisonFrame) (x : Value) (s : Session) →
      on_truth (onward_of look frames) (with_compared look f x s) ≡ finish_move look (take_compared f x) frames s
  unfolding take_compared
  compared_taken f x s = grind (arith, nat_tests, truth_then)

  argument_taken : (f : ArgumentFrame) (x : Value) (s : Session) →
      on_nothing (onward_of look frames) (with_argument look f x s) ≡ finish_moved look (take_argument f x s) frames
  unfolding take_argument
  argument_taken f x s = grind (arith, nat_tests, nothing_then, loop_given, abort_given)

  -- ---- the parts that wait for a truth

  -- ---- the parts that wait for nothing

  -- a turn that begins, or is one too many
  abbrev turn_outcome : Bool → Session → Session → Outcome (Unit {0})
  turn_outcome b t s = if b then Gives tt t else Stops (Faulted TurnLimit) s

  turn_taken : (v : ℕ) (body : Block) (i left : ℕ) (s : Session) →
      on_nothing (onward_of look frames) (repeat v (run_block look body) left i s) ≡ finish_moved look (take_turn v body i left s) frames
  unfolding repeat take_turn begin_turn
  turn_taken v body i left s = grind (arith, nat_tests, nothing_then)

  nothing_taken : (f : NextFrame) (s : Session) →
      on_nothing (onward_of look frames) (with_nothing look f s) ≡ finish_moved look (take_nothing f s) frames
  unfolding take_nothing
  nothing_taken f s = grind (arith, nat_tests, block_begins, turn_taken)

  -- ---- each part

  pub item_taken : (f : Frame) (item : Item) (s : Session) → onward_of look (f ∷ frames) item s ≡ finish_moved look (take_item f item s) frames
  unfolding take_truth
  item_taken f item s = grind (arith, nat_tests, operand_taken, compared_taken, argument_taken, nothing_taken)
