-- The meaning of a program over a look-up. Elements are evaluated from left to right, and the first stop ends the run.
pub use Rattle.stm_steps.specs.Steps.{get_answered, rev_answered, get_of, run_of}
unfoldable pub use Rattle.stm_steps.specs.Steps.{get_key, rev_key}
use Rattle.std.specs.Prelude.{ℕ, suc, zero, Bool, true, false, not, List}
use Rattle.stm_program.specs.Syntax.{Expression, Condition, Statement, Block, Text, Number, Variable, Get, Rev, Arithmetic, Cat, TextOf, NumOf, Equal, Less}
use Rattle.stm_program.specs.Syntax.{Not, And, Or, Set, Put, Del, If, For, Emit, Abort, End, Then}
use Rattle.stm_steps.specs.declared.value.Value.{Value}
use Rattle.stm_steps.specs.declared.value.Value.TheVariants.{Text as TextValue, Number as NumberValue}
use Rattle.stm_steps.specs.declared.stop.Stop.TheVariants.{Aborted, Faulted, Wants}
use Rattle.stm_steps.specs.declared.run.End.TheVariants.{Done, Aborted as EndAborted, Faulted as EndFaulted}
use Rattle.stm_steps.specs.declared.run.Answered.{Answered}
use Rattle.stm_steps.specs.declared.run.Answered.TheVariants.{Ended, Wants as WantsKey}
use Rattle.stm_steps.specs.Answer.{Lookup}
use Rattle.stm_steps.specs.Values.{text_in, key_in, arithmetic, concatenated, text_of, num_of, equal, less, put_of, del_of, turns_of}
use Rattle.stm_steps.specs.Session.{Session, fresh, variable_in, with_variable, with_output, with_write}
use Rattle.stm_steps.specs.Outcome.{Outcome, Gives, Stops, and_then, given, begin_turn}

-- what an expression gives; kinds are checked when all elements of a node have values
unfoldable pub evaluate : Lookup → Expression → Session → Outcome Value
evaluate look (Text t) s = Gives (TextValue t) s
evaluate look (Number n) s = Gives (NumberValue n) s
evaluate look (Variable v) s = Gives (variable_in s v) s
evaluate look (Get e) s = and_then (evaluate look e s) (λ x t. and_then (given (key_in x) t) (get_key look))
evaluate look (Rev e) s = and_then (evaluate look e s) (λ x t. and_then (given (key_in x) t) (rev_key look))
evaluate look (Arithmetic operator e f) s = and_then (evaluate look e s) (λ x t. and_then (evaluate look f t) (λ y. given (arithmetic operator x y)))
evaluate look (Cat e f) s = and_then (evaluate look e s) (λ x t. and_then (evaluate look f t) (λ y. given (concatenated x y)))
evaluate look (TextOf e) s = and_then (evaluate look e s) (λ x. given (text_of x))
evaluate look (NumOf e) s = and_then (evaluate look e s) (λ x. given (num_of x))

-- `and` and `or` look at the right side only where the left one does not decide
abbrev pub unless_false : (Session → Outcome Bool) → Bool → Session → Outcome Bool
unless_false right true s = right s
unless_false right false s = Gives false s

abbrev pub unless_true : (Session → Outcome Bool) → Bool → Session → Outcome Bool
unless_true right true s = Gives true s
unless_true right false s = right s

-- whether a condition holds
unfoldable pub holds : Lookup → Condition → Session → Outcome Bool
holds look (Equal e f) s = and_then (evaluate look e s) (λ x t. and_then (evaluate look f t) (λ y. given (equal x y)))
holds look (Less e f) s = and_then (evaluate look e s) (λ x t. and_then (evaluate look f t) (λ y. given (less x y)))
holds look (Not c) s = and_then (holds look c s) (λ b. Gives (not b))
holds look (And c d) s = and_then (holds look c s) (unless_false (holds look d))
holds look (Or c d) s = and_then (holds look c s) (unless_true (holds look d))

abbrev pub branch : (Session → Outcome (Unit {0})) → (Session → Outcome (Unit {0})) → Bool → Session → Outcome (Unit {0})
branch then_block else_block true s = then_block s
branch then_block else_block false s = else_block s

-- the turns of a loop that are left, from turn i on
unfoldable pub repeat : ℕ → (Session → Outcome (Unit {0})) → ℕ → ℕ → Session → Outcome (Unit {0})
repeat v body zero i s = Gives tt s
repeat v body (suc left) i s = and_then (begin_turn v i s) (λ _ t. and_then (body t) (λ _. repeat v body left (suc i)))

abbrev pub aborts : List ℕ → Session → Outcome (Unit {0})
aborts t s = Stops (Aborted t) s

-- what a statement and a block come to; the count of a loop is evaluated once
unfoldable mutual
  pub run_statement : Lookup → Statement → Session → Outcome (Unit {0})
  run_statement look (Set v e) s = and_then (evaluate look e s) (λ x t. Gives tt (with_variable v x t))
  run_statement look (Put e f lease) s =
      and_then (evaluate look e s) (λ x t. and_then (evaluate look f t) (λ y u. and_then (given (put_of x y lease) u) (λ w r. Gives tt (with_write w r))))
  run_statement look (Del e) s = and_then (evaluate look e s) (λ x t. and_then (given (del_of x) t) (λ w u. Gives tt (with_write w u)))
  run_statement look (If c yes_block no_block) s = and_then (holds look c s) (branch (run_block look yes_block) (run_block look no_block))
  run_statement look (For v e limit body) s =
      and_then (evaluate look e s) (λ x t. and_then (given (turns_of x limit) t) (λ n. repeat v (run_block look body) n 0))
  run_statement look (Emit e) s = and_then (evaluate look e s) (λ x t. Gives tt (with_output x t))
  run_statement look (Abort e) s = and_then (evaluate look e s) (λ x t. and_then (given (text_in x) t) aborts)

  pub run_block : Lookup → Block → Session → Outcome (Unit {0})
  run_block look End s = Gives tt s
  run_block look (Then first rest) s = and_then (run_statement look first s) (λ _. run_block look rest)

-- what a run came to
abbrev pub answered : Outcome (Unit {0}) → Answered
answered (Gives x s) = Ended (run_of Done s)
answered (Stops (Aborted t) s) = Ended (run_of (EndAborted t) s)
answered (Stops (Faulted fault) s) = Ended (run_of (EndFaulted fault) s)
answered (Stops (Wants key) s) = WantsKey key s.trace

-- The run of a program over a look-up: its end, or the first key that it wants and the look-up knows nothing of.
unfoldable pub run_over : Lookup → Block → Answered
run_over look program = answered (run_block look program fresh)
