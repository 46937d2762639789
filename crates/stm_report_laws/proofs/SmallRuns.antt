-- The numbers of a run: what a program emits, what it sees and what it writes is within 64 bits where its literals and its answers are.
use Rattle.std.proofs.Common.{◌≡◌, ℕ, zero, suc, ◌^◌, ◌≤◌, Bool, true, cond, List, [], ◌∷◌, ◌++◌, ℤ, pos, refl, arith, Option, Some, Result, Ok, Err, lt-ltb}
use Rattle.std.specs.Prelude.{slice_set, slice_index_or}
use Rattle.std.specs.List.{AllByRecursion}
use Rattle.std.proofs.lemmas.Bool.Decides.{nat_tests}
use Rattle.stm_history.specs.declared.revisions.TheConstants.{HIGHEST_NUMBER}
use Rattle.stm_program.specs.declared.operator.Operator.{Operator}
use Rattle.stm_program.specs.Syntax.{Block}
use Rattle.stm_program.specs.Limits.{ExpressionInRange, ConditionInRange, StatementInRange, BlockInRange}
use Rattle.stm_history.specs.declared.change.Change.{Change}
use Rattle.stm_history.specs.declared.change.Change.TheVariants.{Put as PutWrite, Del as DelWrite}
use Rattle.stm_steps.specs.declared.value.Value.{Value}
use Rattle.stm_steps.specs.declared.value.Value.TheVariants.{Text as TextValue, Number as NumberValue}
use Rattle.stm_steps.specs.declared.trace_item.TraceItem.{TraceItem}
use Rattle.stm_steps.specs.declared.trace_item.TraceItem.TheVariants.{Get as GetItem, Rev as RevItem}
use Rattle.stm_steps.specs.declared.fault.Fault.{Fault}
use Rattle.stm_steps.specs.declared.fault.Fault.TheVariants.{TurnLimit}
use Rattle.stm_steps.specs.declared.stop.Stop.TheVariants.{Faulted}
use Rattle.stm_steps.specs.declared.run.Run.{Run}
use Rattle.stm_steps.specs.declared.run.Answered.TheVariants.{Ended}
use Rattle.stm_steps.specs.Answer.{Answer, Lookup}
use Rattle.stm_steps.specs.Values.{is_in_range, number_or, computed, as_number, arithmetic, concatenated, text_of, signed_number, written_number, num_of}
use Rattle.stm_steps.specs.Session.{Session, fresh}
use Rattle.stm_steps.specs.Outcome.{Outcome, Gives, Stops, and_then, begin_turn}
use Rattle.stm_steps.specs.Meaning.{rev_answered, get_of, get_key, rev_key, answered, run_over}
use Rattle.stm_steps.proofs.IntegerRange.{in_range}
use Rattle.stm_meaning.proofs.RunInduction.{Part, OfExpression, OfCondition, OfStatement, OfBlock, parts_of, Gift, Nothing, Given, Tells, Steps, block}

-- ---- what fits

abbrev pub ValueFits : Value → Type 0
ValueFits (TextValue t) = Unit {0}
ValueFits (NumberValue z) = is_in_range z ≡ true

abbrev pub ValuesFit : List Value → Type 0
ValuesFit = AllByRecursion ValueFits

abbrev pub ItemFits : TraceItem → Type 0
ItemFits (GetItem key value) = Unit {0}
ItemFits (RevItem key mod_rev) = mod_rev ≤ HIGHEST_NUMBER

abbrev pub ItemsFit : List TraceItem → Type 0
ItemsFit = AllByRecursion ItemFits

abbrev pub WriteFits : Change → Type 0
WriteFits (PutWrite key value lease) = lease ≤ HIGHEST_NUMBER
WriteFits (DelWrite key) = Unit {0}

abbrev pub WritesFit : List Change → Type 0
WritesFit = AllByRecursion WriteFits

-- what holds of each of two lists holds of each of both
pub all_append : {X : Type 0} (Q : X → Type 0) (xs ys : List X) → AllByRecursion Q xs → AllByRecursion Q ys → AllByRecursion Q (xs ++ ys)
all_append Q [] ys first second = second
all_append Q (x ∷ xs) ys first second = (first.0, all_append Q xs ys first.1 second)

variable_fits : (xs : List Value) (v : ℕ) → ValuesFit xs → ValueFits (slice_index_or xs v (NumberValue (pos 0)))
variable_fits [] v fits = refl
variable_fits (x ∷ xs) zero fits = fits.0
variable_fits (x ∷ xs) (suc v) fits = variable_fits xs v fits.1

variables_set : (xs : List Value) (v : ℕ) (x : Value) → ValuesFit xs → ValueFits x → ValuesFit (slice_set xs v x)
variables_set [] v x fits one = tt
variables_set (y ∷ ys) zero x fits one = (one, fits.1)
variables_set (y ∷ ys) (suc v) x fits one = (fits.0, variables_set ys v x fits.1 one)

-- what a run has come to
abbrev SessionFits : Session → Type 0
SessionFits s = ValuesFit s.variables × ValuesFit s.output × ItemsFit s.trace × WritesFit s.writes

-- ---- values

abbrev ResultFits : {X : Type 0} → (X → Type 0) → Result X Fault → Type 0
ResultFits Q (Ok x) = Q x
ResultFits Q (Err fault) = Unit {0}

number_fits : (fault : Fault) (z : ℤ) → ResultFits ValueFits (as_number (number_or fault z))
number_fits fault z = grind (arith, nat_tests)

arithmetic_fits : (operator : Operator) (x y : Value) → ResultFits ValueFits (arithmetic operator x y)
unfolding arithmetic computed
arithmetic_fits operator x y = grind (arith, nat_tests, number_fits)

concatenated_fits : (x y : Value) → ResultFits ValueFits (concatenated x y)
unfolding concatenated
concatenated_fits x y = grind (arith, nat_tests)

written_by : (sign : ℤ → ℤ) (digits : List ℕ) → ResultFits ValueFits (as_number (signed_number sign digits))
written_by sign digits = grind (arith, nat_tests, number_fits)

num_of_fits : (x : Value) → ResultFits ValueFits (num_of x)
unfolding num_of written_number
num_of_fits x = grind (arith, nat_tests, written_by)

-- ---- what each part of a program comes to

abbrev InRange : Part → Type 0
InRange (OfExpression e) = ExpressionInRange e
InRange (OfCondition c) = ConditionInRange c
InRange (OfStatement p) = StatementInRange p
InRange (OfBlock b) = BlockInRange b

parts_in_range : (part : Part) → InRange part → AllByRecursion InRange (parts_of part)
parts_in_range part within = grind (arith, nat_tests, OfExpression, OfCondition, OfStatement, OfBlock)

abbrev OutcomeFits : {X : Type 0} → (X → Type 0) → Outcome X → Type 0
OutcomeFits Q (Gives x s) = Q x × SessionFits s
OutcomeFits Q (Stops stop s) = SessionFits s

then_fits : {X Y : Type 0} (Q : X → Type 0) (R : Y → Type 0) (o : Outcome X) (k : X → Session → Outcome Y) → OutcomeFits Q o →
    ((x : X) → Q x → (s : Session) → SessionFits s → OutcomeFits R (k x s)) → OutcomeFits R (and_then o k)
then_fits Q R o k fits next = grind (arith, nat_tests)

abbrev HasFitting : (a : Gift) → Given a → Type 0
HasFitting = Tells (λ e x. ValueFits x)

module _ (look : Lookup) (known : (key : List ℕ) (a : Answer) → look key ≡ Some a → a.mod_rev ≤ HIGHEST_NUMBER) where
  found_get : (key : List ℕ) (w : Option Change) (s : Session) → SessionFits s → OutcomeFits ValueFits (get_of look key w s)
  found_get key w s fits = grind (arith, nat_tests, all_append)

  small_in_range : (n : ℕ) → n ≤ HIGHEST_NUMBER → is_in_range (pos n) ≡ true
  small_in_range n few = lt-ltb n (2 ^ 63) (omega (arith, few))

  answered_rev : (key : List ℕ) (o : Option Answer) (s : Session) → look key ≡ o → SessionFits s → OutcomeFits ValueFits (rev_answered key o s)
  answered_rev key o s is fits = grind (arith, nat_tests, small_in_range, all_append)

  begun_by : (b : Bool) (t s : Session) → SessionFits t → SessionFits s →
      OutcomeFits (HasFitting Nothing) (cond b (Gives tt t) (Stops (Faulted TurnLimit) s))
  begun_by b t s begun fits = grind (arith, nat_tests)

  abbrev Fits : (a : Gift) (f g : Session → Outcome (Given a)) → Type 0
  Fits a f g = (s : Session) → SessionFits s → OutcomeFits (HasFitting a) (f s)

  steps_fit : Steps look look InRange (λ e x. ValueFits x) Fits
  unfolding text_of get_key rev_key begin_turn
  steps_fit =
      grind (arith, nat_tests, parts_in_range, then_fits, in_range, variable_fits, found_get, answered_rev, arithmetic_fits, concatenated_fits, num_of_fits, variables_set, all_append, begun_by, small_in_range)

  abbrev RunFits : Run → Type 0
  RunFits run = ValuesFit run.output × ItemsFit run.trace × WritesFit run.writes

  ended_fits : (o : Outcome (Unit {0})) (run : Run) → answered o ≡ Ended run → OutcomeFits (HasFitting Nothing) o → RunFits run
  ended_fits o run e h = grind (arith, nat_tests)

  pub run_fits : (program : Block) (run : Run) → BlockInRange program → run_over look program ≡ Ended run → RunFits run
  unfolding fresh run_over
  run_fits program run within e = grind (arith, nat_tests, ended_fits, block, steps_fit)
