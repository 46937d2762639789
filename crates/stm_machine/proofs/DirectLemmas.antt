-- What is run at once: expressions and statements that read no key.
use Rattle.std.proofs.Common.{◌≡◌, sym, ◌∙◌, ap, subst, ℕ, List, arith}
use Rattle.std.specs.Prelude.{Bool, true, false, Option, None, Some, Result, Ok, IfSome}
use Rattle.std.proofs.lemmas.Bool.Decides.{nat_tests}
use Rattle.stm_program.specs.Syntax as tree
use Rattle.stm_program.specs.Syntax.{Expression, Statement}
use Rattle.stm_program.specs.declared.operator.Operator.{Operator}
use Rattle.stm_history.specs.declared.change.Change.{Change}
use Rattle.stm_steps.specs.declared.value.Value.{Value}
use Rattle.stm_steps.specs.declared.fault.Fault.{Fault}
use Rattle.stm_steps.specs.Values.{key_in, arithmetic, concatenated, text_of, num_of, put_of, del_of}
use Rattle.stm_steps.specs.Session.{Session, with_variable, with_output, with_write}
use Rattle.stm_steps.specs.Outcome.{Outcome, Gives, and_then, given}
use Rattle.stm_steps.specs.Meaning.{evaluate, run_statement}
use Rattle.stm_machine.specs.declared.focus.Item.TheVariants.{Value as ValueItem}
use Rattle.stm_machine.specs.declared.focus.Focus.{Focus}
use Rattle.stm_machine.specs.declared.focus.Focus.TheVariants.{Give}
use Rattle.stm_machine.specs.Moves.{at_get}
use Rattle.stm_machine.specs.Direct.{GivesAtOnce, IsPast, LeadsOn, RunsAtOnce, RunsOrStays}

-- what an answer that was found is
pub of_some : {X : Type 0} (P : X → Type 0) (o : Option X) (x : X) → o ≡ Some x → IfSome o P → P x
of_some P o x is holds = subst (λ (q : Option _). IfSome q P) is holds

-- ---- expressions

pub combined_at_once : (operator : Operator) (e f : Expression) (s : Session) (x y : Value) (o : Option Value) → GivesAtOnce e s x → GivesAtOnce f s y →
    (r : Result Value Fault) → r ≡ arithmetic operator x y → IfSome o (λ z. r ≡ Ok z) →
    IfSome o (GivesAtOnce (tree.Arithmetic operator e f) s)
unfolding evaluate
combined_at_once operator e f s x y o left right r computed is = grind (arith, nat_tests)

pub joined_at_once : (e f : Expression) (s : Session) (x y : Value) (o : Option Value) → GivesAtOnce e s x → GivesAtOnce f s y →
    (r : Result Value Fault) → r ≡ concatenated x y → IfSome o (λ z. r ≡ Ok z) → IfSome o (GivesAtOnce (tree.Cat e f) s)
unfolding evaluate
joined_at_once e f s x y o left right r computed is = grind (arith, nat_tests)

pub spelled_at_once : (e : Expression) (s : Session) (x : Value) (o : Option Value) → GivesAtOnce e s x →
    (r : Result Value Fault) → r ≡ text_of x → IfSome o (λ z. r ≡ Ok z) → IfSome o (GivesAtOnce (tree.TextOf e) s)
unfolding evaluate
spelled_at_once e s x o gives r computed is = grind (arith, nat_tests)

pub number_at_once : (e : Expression) (s : Session) (x : Value) (o : Option Value) → GivesAtOnce e s x →
    (r : Result Value Fault) → r ≡ num_of x → IfSome o (λ z. r ≡ Ok z) → IfSome o (GivesAtOnce (tree.NumOf e) s)
unfolding evaluate
number_at_once e s x o gives r computed is = grind (arith, nat_tests)

-- ---- where a machine stands then

past_get : (r : Result (List ℕ) Fault) → IsPast (at_get r)
past_get r = grind (arith, nat_tests)

leads_there : (e : Expression) (s : Session) (x : Value) (focus : Focus) → GivesAtOnce e s x → focus ≡ at_get (key_in x) → LeadsOn (tree.Get e) s focus
unfolding evaluate
leads_there e s x focus gives is = grind (arith, nat_tests, past_get)

pub leads_to_key : (e : Expression) (s : Session) (x : Value) (o : Option Focus) → GivesAtOnce e s x → IfSome o (λ focus. focus ≡ at_get (key_in x)) →
    IfSome o (LeadsOn (tree.Get e) s)
leads_to_key e s x None gives is = tt
leads_to_key e s x (Some focus) gives is = leads_there e s x focus gives is

pub leads_behind : (e : Expression) (s : Session) (x : Value) → GivesAtOnce e s x → LeadsOn e s (Give (ValueItem x))
leads_behind e s x gives = grind (arith, nat_tests)

-- ---- statements

pub set_at_once : (v : ℕ) (e : Expression) (s t : Session) (x : Value) → GivesAtOnce e s x → t ≡ with_variable v x s → RunsAtOnce (tree.Set v e) s t
unfolding run_statement
set_at_once v e s t x gives is = grind (arith, nat_tests)

pub emit_at_once : (e : Expression) (s t : Session) (x : Value) → GivesAtOnce e s x → t ≡ with_output x s → RunsAtOnce (tree.Emit e) s t
unfolding run_statement
emit_at_once e s t x gives is = grind (arith, nat_tests)

abbrev keep : Change → Session → Outcome (Unit {0})
keep w s = Gives tt (with_write w s)

abbrev done : Session → Outcome (Unit {0})
done s = Gives tt s

written_given : (r : Result Change Fault) (w : Change) (s t : Session) → r ≡ Ok w → t ≡ with_write w s → and_then (given r s) keep ≡ done t
written_given r w s t is left = ap (λ (q : Result Change Fault). and_then (given q s) keep) is ∙ ap done (sym left)

pub put_at_once : (e f : Expression) (lease : ℕ) (s t : Session) (x y : Value) (w : Change) → GivesAtOnce e s x → GivesAtOnce f s y →
    put_of x y lease ≡ Ok w → t ≡ with_write w s → RunsAtOnce (tree.Put e f lease) s t
unfolding run_statement
put_at_once e f lease s t x y w key value is left = grind (arith, nat_tests, written_given)

pub del_at_once : (e : Expression) (s t : Session) (x : Value) (w : Change) → GivesAtOnce e s x → del_of x ≡ Ok w → t ≡ with_write w s →
    RunsAtOnce (tree.Del e) s t
unfolding run_statement
del_at_once e s t x w key is left = grind (arith, nat_tests, written_given)

-- whether a statement was run at once
pub has_run : (ran : Bool) (statement : Statement) (s t : Session) → ran ≡ true → RunsOrStays ran statement s t → RunsAtOnce statement s t
has_run ran statement s t yes_ran runs = grind (arith, nat_tests)

pub has_stayed : (ran : Bool) (statement : Statement) (s t : Session) → ran ≡ false → RunsOrStays ran statement s t → t ≡ s
has_stayed ran statement s t not_ran runs = grind (arith, nat_tests)
