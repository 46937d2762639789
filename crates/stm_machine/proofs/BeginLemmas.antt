-- The move at the start of an expression, a condition, a statement and a block: finishing from there comes to the same.
use Rattle.std.proofs.Common.{◌≡◌, refl, List, arith}
use Rattle.std.specs.Prelude.{Bool}
use Rattle.std.proofs.lemmas.Bool.Decides.{nat_tests}
use Rattle.stm_program.specs.Syntax.{Expression, Condition, Statement, Block, End, Then}
use Rattle.stm_steps.specs.declared.value.Value.{Value}
use Rattle.stm_steps.specs.Answer.{Lookup}
use Rattle.stm_steps.specs.Session.{Session}
use Rattle.stm_steps.specs.Outcome.{Outcome, and_then}
use Rattle.stm_steps.specs.Meaning.{evaluate, holds, run_statement, run_block}
use Rattle.stm_machine.specs.declared.focus.Item.TheVariants.{Value as ValueItem, Truth as TruthItem, Nothing}
use Rattle.stm_machine.specs.declared.focus.Focus.TheVariants.{Evaluate, Test}
use Rattle.stm_machine.specs.declared.frame.Frame.{Frame}
use Rattle.stm_machine.specs.Moves.{Move, frames_after, begin_expression, begin_condition, begin_statement, begin_block}
use Rattle.stm_machine.specs.Finish.{Onward, on_value, on_truth, on_nothing, onward_of, finish_from}
use Rattle.stm_machine.proofs.OutcomeLemmas.{and_then_assoc, and_then_assoc_twice}

-- finishing after a move
abbrev pub finish_move : Lookup → Move → List Frame → Session → Outcome (Unit {0})
finish_move look m frames s = finish_from look m.focus (frames_after m frames) s

module _ (look : Lookup) (frames : List Frame) where
  abbrev pub onward : Onward
  onward = onward_of look frames

  pub value_then : {X : Type 0} (o : Outcome X) (f : X → Session → Outcome Value) →
      on_value onward (and_then o f) ≡ and_then o (λ x t. on_value onward (f x t))
  value_then o f = and_then_assoc o f (λ x. onward (ValueItem x))

  pub truth_then : {X : Type 0} (o : Outcome X) (f : X → Session → Outcome Bool) →
      on_truth onward (and_then o f) ≡ and_then o (λ x t. on_truth onward (f x t))
  truth_then o f = and_then_assoc o f (λ b. onward (TruthItem b))

  pub nothing_then : {X : Type 0} (o : Outcome X) (f : X → Session → Outcome (Unit {0})) →
      on_nothing onward (and_then o f) ≡ and_then o (λ x t. on_nothing onward (f x t))
  nothing_then o f = and_then_assoc o f (λ _. onward Nothing)

  pub expression_begins : (e : Expression) (s : Session) → finish_from look (Evaluate e) frames s ≡ finish_move look (begin_expression e s) frames s
  unfolding evaluate begin_expression
  expression_begins e s = grind (arith, nat_tests, value_then)

  pub condition_begins : (c : Condition) (s : Session) → finish_from look (Test c) frames s ≡ finish_move look (begin_condition c) frames s
  unfolding holds begin_condition
  condition_begins c s = grind (arith, nat_tests, truth_then)

  -- with the statements after it
  statement_begins : (p : Statement) (rest : Block) (s : Session) →
      on_nothing onward (and_then (run_statement look p s) (λ _. run_block look rest)) ≡ finish_move look (begin_statement p rest) frames s
  unfolding run_statement begin_statement
  statement_begins p rest s = grind (arith, nat_tests, and_then_assoc_twice)

  pub block_begins : (b : Block) (s : Session) → on_nothing onward (run_block look b s) ≡ finish_move look (begin_block b) frames s
  unfolding run_block begin_block
  block_begins End s = refl
  block_begins (Then first rest) s = statement_begins first rest s
