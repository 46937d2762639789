-- No program is written with a float.
use Rattle.std.proofs.Common.{◌≡◌, false, ℕ, ℤ, pos, negsuc, List, [], ◌∷◌, refl, arith}
use Rattle.std.proofs.lemmas.Bool.Decides.{nat_tests}
use Rattle.serde_json.specs.Find.{is_float, of_integer}
use Rattle.serde_json.specs.Written.{has_float, items_have_float}
use Rattle.stm_program.specs.Syntax.{Expression, Text, Number, Variable, Get, Rev, Arithmetic, Cat, TextOf, NumOf, Condition, Equal, Less, Not, And, Or}
use Rattle.stm_program.specs.Syntax.{Statement, Set, Put, Del, If, For, Emit, Abort, Block, End, Then, ProgramTree}
use Rattle.stm_program_json.specs.Writing.{written_expression, written_condition, written_statement, written_statements, written_keys, written_program}

of_integer-no_float : (z : ℤ) → is_float (of_integer z) ≡ false
of_integer-no_float (pos n) = refl
of_integer-no_float (negsuc n) = refl

expression-no_float : (e : Expression) → has_float (written_expression e) ≡ false
expression-no_float (Text s) = refl
expression-no_float (Number z) = of_integer-no_float z
expression-no_float (Variable v) = refl
expression-no_float (Get e) = rw (expression-no_float e) refl
expression-no_float (Rev e) = rw (expression-no_float e) refl
expression-no_float (Arithmetic o l r) = rw (expression-no_float l, expression-no_float r) refl
expression-no_float (Cat l r) = rw (expression-no_float l, expression-no_float r) refl
expression-no_float (TextOf e) = rw (expression-no_float e) refl
expression-no_float (NumOf e) = rw (expression-no_float e) refl

condition-no_float : (c : Condition) → has_float (written_condition c) ≡ false
condition-no_float (Equal l r) = rw (expression-no_float l, expression-no_float r) refl
condition-no_float (Less l r) = rw (expression-no_float l, expression-no_float r) refl
condition-no_float (Not c) = rw (condition-no_float c) refl
condition-no_float (And c d) = rw (condition-no_float c, condition-no_float d) refl
condition-no_float (Or c d) = rw (condition-no_float c, condition-no_float d) refl

mutual
  statement-no_float : (s : Statement) → has_float (written_statement s) ≡ false
  statement-no_float (Set v e) = rw (expression-no_float e) refl
  statement-no_float (Put k e l) = rw (expression-no_float k, expression-no_float e) refl
  statement-no_float (Del k) = rw (expression-no_float k) refl
  statement-no_float (If c t e) = rw (condition-no_float c, statements-no_float t, statements-no_float e) refl
  statement-no_float (For v e n b) = rw (expression-no_float e, statements-no_float b) refl
  statement-no_float (Emit e) = rw (expression-no_float e) refl
  statement-no_float (Abort e) = rw (expression-no_float e) refl

  statements-no_float : (b : Block) → items_have_float (written_statements b) ≡ false
  statements-no_float End = refl
  statements-no_float (Then s b) = rw (statement-no_float s, statements-no_float b) refl

keys-no_float : (keys : List (List ℕ)) → items_have_float (written_keys keys) ≡ false
keys-no_float [] = refl
keys-no_float (key ∷ keys) = keys-no_float keys

pub program-no_float : (p : ProgramTree) → has_float (written_program p) ≡ false
program-no_float p = grind (arith, nat_tests, statements-no_float, keys-no_float)
