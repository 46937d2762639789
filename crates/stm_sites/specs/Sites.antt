-- Where a run stops: in which node of its program, and on which values. The meaning of a program says whether a part stops.
-- The indices are those of the program's JSON, in whose arrays the word is at 0.
use Rattle.std.specs.Prelude.{ℕ, zero, suc, Bool, true, false, List, [], ◌∷◌, Result, Ok, Err}
use Rattle.stm_program.specs.Syntax.{Expression, Condition, Statement, Block, Text, Number, Variable, Get, Rev, Arithmetic, Cat, TextOf, NumOf, Equal, Less}
use Rattle.stm_program.specs.Syntax.{Not, And, Or, Set, Put, Del, If, For, Emit, Abort, End, Then}
use Rattle.stm_steps.specs.declared.value.Value.{Value}
use Rattle.stm_steps.specs.declared.fault.Fault.{Fault}
use Rattle.stm_steps.specs.Answer.{Lookup}
use Rattle.stm_steps.specs.Values.{turns_of}
use Rattle.stm_steps.specs.Session.{Session, fresh}
use Rattle.stm_steps.specs.Outcome.{Outcome, Gives, Stops, begin_turn}
use Rattle.stm_steps.specs.Meaning.{evaluate, holds, run_statement, run_block}
use Rattle.stm_sites.specs.declared.site.Site.{Site}
use Rattle.stm_sites.specs.declared.site.Node.{Node}
use Rattle.stm_sites.specs.declared.site.Node.TheVariants.{Operation, Loop, OfNumber, OfText, Comparison}

-- the node at hand, whose parts gave these values
abbrev pub here : Node → List Value → Site
here node values = record { place = []; node = node; values = values }

-- where nothing stops the run: this site is never read
abbrev pub nowhere : Site
nowhere = here OfText []

-- a site in the part at an index of the node's array
abbrev pub inside : ℕ → Site → Site
inside index site = record { place = index ∷ site.place; node = site.node; values = site.values }

-- A part stops the run: the site is in it. Or it gives something: then what comes next has the site.
abbrev pub part_or : {X : Type 0} → ℕ → Site → (X → Session → Site) → Outcome X → Site
part_or index site next (Gives x s) = next x s
part_or index site next (Stops stop s) = inside index site

-- of a node of one value, and of two
abbrev pub after_one : Node → ℕ → Site → Outcome Value → Site
after_one node index site outcome = part_or index site (λ x t. here node (x ∷ [])) outcome

abbrev pub after_two : Node → Site → (Session → Site) → (Session → Outcome Value) → Outcome Value → Site
after_two node first second right outcome = part_or 1 first (λ x t. part_or 2 (second t) (λ y u. here node (x ∷ y ∷ [])) (right t)) outcome

-- in an expression
unfoldable pub expression_site : Lookup → Expression → Session → Site
expression_site look (Text t) s = nowhere
expression_site look (Number n) s = nowhere
expression_site look (Variable v) s = nowhere
expression_site look (Get e) s = after_one OfText 1 (expression_site look e s) (evaluate look e s)
expression_site look (Rev e) s = after_one OfText 1 (expression_site look e s) (evaluate look e s)
expression_site look (Arithmetic operator e f) s =
    after_two (Operation operator) (expression_site look e s) (expression_site look f) (evaluate look f) (evaluate look e s)
expression_site look (Cat e f) s = after_two OfText (expression_site look e s) (expression_site look f) (evaluate look f) (evaluate look e s)
expression_site look (TextOf e) s = after_one OfNumber 1 (expression_site look e s) (evaluate look e s)
expression_site look (NumOf e) s = after_one OfText 1 (expression_site look e s) (evaluate look e s)

-- in a condition
unfoldable pub condition_site : Lookup → Condition → Session → Site
condition_site look (Equal e f) s = after_two Comparison (expression_site look e s) (expression_site look f) (evaluate look f) (evaluate look e s)
condition_site look (Less e f) s = after_two Comparison (expression_site look e s) (expression_site look f) (evaluate look f) (evaluate look e s)
condition_site look (Not c) s = part_or 1 (condition_site look c s) (λ b t. nowhere) (holds look c s)
condition_site look (And c d) s = part_or 1 (condition_site look c s) (λ b t. inside 2 (condition_site look d t)) (holds look c s)
condition_site look (Or c d) s = part_or 1 (condition_site look c s) (λ b t. inside 2 (condition_site look d t)) (holds look c s)

-- in the block that a choice runs
abbrev pub branch_site : (Session → Site) → (Session → Site) → Bool → Session → Site
branch_site first second true s = inside 2 (first s)
branch_site first second false s = inside 3 (second s)

-- a turn of a loop does not begin: the loop is the site
abbrev pub turn_site : (Session → Site) → Outcome (Unit {0}) → Site
turn_site next (Gives x s) = next s
turn_site next (Stops stop s) = here OfNumber []

-- in the turns of a loop that are left, from turn i on
unfoldable pub turns_site : ℕ → (Session → Outcome (Unit {0})) → (Session → Site) → ℕ → ℕ → Session → Site
turns_site v body site zero i s = nowhere
turns_site v body site (suc left) i s =
    turn_site (λ t. part_or 4 (site t) (λ _ u. turns_site v body site left (suc i) u) (body t)) (begin_turn v i s)

-- a count is no number of turns: the loop is the site
abbrev pub loop_site : Value → ℕ → (ℕ → Session → Site) → Result ℕ Fault → Session → Site
loop_site count limit turns (Ok n) s = turns n s
loop_site count limit turns (Err fault) s = here (Loop limit) (count ∷ [])

-- in a statement, and in the statements of a block, of which the first is that with this index
unfoldable mutual
  pub statement_site : Lookup → Statement → Session → Site
  statement_site look (Set v e) s = after_one OfText 2 (expression_site look e s) (evaluate look e s)
  statement_site look (Put e f lease) s = after_two OfText (expression_site look e s) (expression_site look f) (evaluate look f) (evaluate look e s)
  statement_site look (Del e) s = after_one OfText 1 (expression_site look e s) (evaluate look e s)
  statement_site look (If c yes_block no_block) s =
      part_or 1 (condition_site look c s) (branch_site (block_site look 0 yes_block) (block_site look 0 no_block)) (holds look c s)
  statement_site look (For v e limit body) s =
      part_or 2 (expression_site look e s)
      (λ x. loop_site x limit (λ n. turns_site v (run_block look body) (block_site look 0 body) n 0) (turns_of x limit)) (evaluate look e s)
  statement_site look (Emit e) s = after_one OfText 1 (expression_site look e s) (evaluate look e s)
  statement_site look (Abort e) s = after_one OfText 1 (expression_site look e s) (evaluate look e s)

  pub block_site : Lookup → ℕ → Block → Session → Site
  block_site look index End s = nowhere
  block_site look index (Then first rest) s =
      part_or index (statement_site look first s) (λ _ t. block_site look (suc index) rest t) (run_statement look first s)

-- in a program
abbrev pub site_of : Lookup → Block → Site
site_of look program = block_site look 0 program fresh
