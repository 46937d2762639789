-- A look-up with `else` in front of its statement.
use Rattle.std.proofs.Common.{◌≡◌, ◌<◌, ℕ, true, false, refl, sym, ◌∙◌, ap, [], ◌∷◌, length, arith}
use Rattle.std.specs.Prelude.{pos}
use Rattle.std.proofs.lemmas.List.{get_or-set_same}
use Rattle.std.proofs.lemmas.Bool.Decides.{nat_tests}
use Rattle.stm_program.specs.Syntax.{Expression, Statement, Block, Text, Variable, Get, Equal, Set, If, End, Then}
use Rattle.stm_steps.specs.declared.value.Value.{Value}
use Rattle.stm_steps.specs.declared.value.Value.TheVariants.{Text as TextValue, Number as NumberValue}
use Rattle.stm_steps.specs.Answer.{Lookup}
use Rattle.stm_steps.specs.Values.{equal}
use Rattle.stm_steps.specs.Session.{Session, with_variable}
use Rattle.stm_steps.specs.Outcome.{Outcome, Gives, Stops, and_then, given}
use Rattle.stm_steps.specs.Meaning.{get_key, evaluate, holds, branch, run_statement, run_block}
use Rattle.stm_leaving.specs.Elses.{or_else, evaluate_else, mentions, fill_plain, is_plain, lifted, but_for}
use Rattle.stm_leaving.specs.Elses.{but_for_at_stops, SetElseRunsAlike, LiftedRunsAlike}
use Rattle.stm_leaving.specs.Heads.{LiftedComesTo}
use Rattle.stm_leaving.proofs.SameRuns.{set_again, Sized, carried, sized_then, same_own, setting, plain_same, Sizes, hits}

module _ (look : Lookup) (v : ℕ) where
  -- what the look-up and the `if` come to, and then what follows
  abbrev pub then_set : (Session → Outcome (Unit {0})) → Value → Session → Outcome (Unit {0})
  then_set rest x s = rest (with_variable v x s)

  -- a `get` gives a text
  abbrev IsGot : Outcome Value → Type 0
  IsGot (Gives (TextValue t) s) = Unit {0}
  IsGot (Gives (NumberValue n) s) = ⊥
  IsGot (Stops stop s) = Unit {0}

  get_is_got : (e : Expression) (s : Session) → IsGot (evaluate look (Get e) s)
  unfolding get_key evaluate
  get_is_got e s = grind (arith, nat_tests)

  abbrev pub ended : Unit {0} → Session → Outcome (Unit {0})
  ended x s = Gives tt s

  other_goes : (y : Value) (o : Outcome Value) (rest : Session → Outcome (Unit {0})) →
      but_for_at_stops v (and_then (and_then (and_then (carried look v y (Sizes v) o) (setting look v y (Sizes v) v)) ended) (λ _. rest))
      ≡ but_for_at_stops v (and_then o (then_set rest))
  other_goes y o rest = grind (arith, nat_tests, set_again)

  -- the test of what was got
  abbrev pub test : Expression → Statement
  test other = If (Equal (Variable v) (Text [])) (Then (Set v other) End) End

  test_runs : (other : Expression) (x : Value) (s : Session) → v < length s.variables →
      run_statement look (test other) (with_variable v x s)
      ≡ and_then (given (equal x (TextValue [])) (with_variable v x s)) (branch (run_block look (Then (Set v other) End)) (run_block look End))
  unfolding run_statement holds evaluate
  test_runs other x s n = grind (arith, nat_tests, get_or-set_same)

  got_goes : (other : Expression) (rest : Block) → mentions v other ≡ false → (o : Outcome Value) → IsGot o → Sized look v (NumberValue (pos 0)) (Sizes v) o →
      but_for_at_stops v (and_then (and_then o (setting look v (NumberValue (pos 0)) (Sizes v) v)) (λ _. run_block look (Then (test other) rest)))
      ≡ but_for_at_stops v (and_then (and_then o (or_else look other)) (then_set (run_block look rest)))
  unfolding run_block equal
  got_goes other rest h (Gives (TextValue []) s) g n =
      ap (λ o. but_for_at_stops v (and_then o (λ _. run_block look rest))) (test_runs other (TextValue []) s n)
      ∙ ap (λ o. but_for_at_stops v (and_then (and_then (and_then o (setting look v (TextValue []) (Sizes v) v)) ended) (λ _. run_block look rest)))
      ((same_own look v (TextValue []) (Sizes v) other h).goes s n)
      ∙ other_goes (TextValue []) (evaluate look other s) (run_block look rest)
  got_goes other rest h (Gives (TextValue (c ∷ cs)) s) g n =
      ap (λ o. but_for_at_stops v (and_then o (λ _. run_block look rest))) (test_runs other (TextValue (c ∷ cs)) s n)
  got_goes other rest h (Gives (NumberValue z) s) g n = absurd g
  got_goes other rest h (Stops stop s) g n = refl

  pub sized_get : (key : Expression) → mentions v key ≡ false → (s : Session) → v < length s.variables → Sized look v (NumberValue (pos 0)) (Sizes v) (evaluate look (Get key) s)
  unfolding mentions
  sized_get key h s n = (same_own look v (NumberValue (pos 0)) (Sizes v) (Get key) h).sized s n

  pub lifted_goes : (key other : Expression) (rest : Block) → mentions v key ≡ false → mentions v other ≡ false → (s : Session) → v < length s.variables →
      but_for_at_stops v (run_block look (lifted v key other rest) s)
      ≡ but_for_at_stops v (and_then (evaluate_else look key other s) (then_set (run_block look rest)))
  unfolding run_block lifted
  lifted_goes key other rest i j s n = got_goes other rest j (evaluate look (Get key) s) (get_is_got key s) (sized_get key i s n)

  pub or_else-sized : (other : Expression) → mentions v other ≡ false → (x : Value) (s : Session) → v < length s.variables →
      Sized look v (NumberValue (pos 0)) (Sizes v) (or_else look other x s)
  or_else-sized other h (TextValue []) s n = (same_own look v (NumberValue (pos 0)) (Sizes v) other h).sized s n
  or_else-sized other h (TextValue (c ∷ cs)) s n = n
  or_else-sized other h (NumberValue z) s n = n

  -- where two runs are the same but for the variable at stops, they are the same but for it
  pub but_for_all : {X : Type 0} (o : Outcome X) → but_for v (but_for_at_stops v o) ≡ but_for v o
  but_for_all o = grind (arith, nat_tests, set_again)

  one_only : (p : Statement) (s : Session) → run_block look (Then p End) s ≡ run_statement look p s
  unfolding run_block
  one_only p s = grind (arith, nat_tests)

  plain_goes : (p : Statement) → is_plain p ≡ true → (o : Outcome Value) → Sized look v (NumberValue (pos 0)) (Sizes v) o →
      but_for v (and_then o (then_set (run_block look (Then p End)))) ≡ but_for v (and_then o (λ x. run_statement look (fill_plain v x p)))
  plain_goes p h (Gives x s) n = ap (λ o. but_for v o) (one_only p (with_variable v x s)) ∙ plain_same look v x (Sizes v) (hits v x) p h s n
  plain_goes p h (Stops stop s) n = refl

pub set_else_runs_alike : SetElseRunsAlike
unfolding run_block
set_else_runs_alike look v key other s n i j = lifted_goes look v key other End i j s n

pub lifted_runs_alike : LiftedRunsAlike
lifted_runs_alike look v key other p s h n i j =
    sym (but_for_all look v (run_block look (lifted v key other (Then p End)) s))
    ∙ ap (λ o. but_for v o) (lifted_goes look v key other (Then p End) i j s n)
    ∙ but_for_all look v (and_then (evaluate_else look key other s) (then_set look v (run_block look (Then p End))))
    ∙ plain_goes look v p h (evaluate_else look key other s)
    (sized_then look v (NumberValue (pos 0)) (Sizes v) (evaluate look (Get key) s) (or_else look other) (sized_get look v key i s n)
    (λ x t m. or_else-sized look v other j x t m))

pub lifted_comes_to : LiftedComesTo
lifted_comes_to look v key other rest s n i j = lifted_goes look v key other rest i j s n
